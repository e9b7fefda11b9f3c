mod BeginningLaws
mod CauseLaws
mod ConformanceLaws
mod CuttingLaws
mod DecodingLaws
mod FlowLaws
mod FormLaws
pub mod grants
mod IgnoredLaws
mod LocalSettingsLaws
mod PayloadLaws
mod SplitLaws
