pub mod Gone
pub mod Seen
pub mod Rows
pub mod Stores
