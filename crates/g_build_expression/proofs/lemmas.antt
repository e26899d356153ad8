pub mod Choices
pub mod Made
pub mod Scopes
