pub mod Created
pub mod Sink
pub mod Prepends
