pub mod Blessing
pub mod CheckProgram
pub mod ExplainProgram
pub mod JUnitProgram
pub mod Memory
pub mod ProgramEnd
