mod Agreeing
mod CompletedLaws
pub mod LoanLaws
pub mod MissingLaws
mod MissingRows
mod Pairs
mod Portions
