pub mod Accepted
pub mod Edits
pub mod Session
pub mod Rebuilds
pub mod Items
