mod Chooses
mod Examples
mod Sequenced
pub mod Defined
pub mod Functions
pub mod Loops
pub mod Names
pub mod Needs
pub mod Positions
pub mod Runs
pub mod Safe
pub mod Shared
pub mod Standing
pub mod Turns
