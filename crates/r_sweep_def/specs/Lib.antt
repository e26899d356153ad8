pub mod Swept
pub mod Listed
