pub mod Scopes
pub mod Latest
pub mod Nested
pub mod Names
pub mod Tags
pub mod Members
pub mod ScopeLaws
