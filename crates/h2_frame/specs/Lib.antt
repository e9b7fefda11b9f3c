pub mod Items
pub mod Loans
pub mod Parts
pub mod PayloadFaults
pub mod Rest
