pub mod State
pub mod Expressions
pub mod Statements
pub mod Run
pub mod RunLaws
pub mod DefinedLaws
