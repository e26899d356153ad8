pub mod lemmas
mod Access
mod Bytes
mod Decoded
mod Examples
mod Found
mod HeldBlocks
mod Loads
mod Lookups
mod Ports
mod Reached
mod Stopped
mod Writes
mod Unwritable
