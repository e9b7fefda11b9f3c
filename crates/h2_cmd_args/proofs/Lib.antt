pub mod Built
pub mod Grammar
pub mod Numbers
pub mod Tables
