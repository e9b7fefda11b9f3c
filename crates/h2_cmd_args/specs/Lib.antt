pub mod Built
pub mod Grammar
pub mod Plans
pub mod Tables
