pub mod Made
pub mod Externals
pub mod Refusal
