pub mod Excerpt
pub mod Explained
pub mod Refusal
pub mod LogFault
pub mod Outcome
pub mod Text
pub mod Report
