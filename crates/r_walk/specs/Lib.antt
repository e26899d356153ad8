pub mod Around
pub mod Asks
pub mod Moves
pub mod Walks
pub mod Walk
pub mod Context
pub mod Laws
