pub mod CaseItems
pub mod Dues
pub mod Judgings
pub mod Rules
pub mod SentItems
