pub mod Exits
mod Jumps
mod Switches
mod Declarations
mod Statements
pub mod Bodies
pub mod Leaves
pub mod Joins
pub mod Names
