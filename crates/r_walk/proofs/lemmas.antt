pub mod Contexts
pub mod Copies
pub mod Local
pub mod Moves
pub mod Uses
pub mod Walks
