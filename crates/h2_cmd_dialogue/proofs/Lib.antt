pub mod WeaveLaws
pub mod PlayLaws
pub mod LimitLaws
pub mod CauseLaws
pub mod FindingLaws
