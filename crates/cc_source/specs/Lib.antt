pub mod Refusal
pub mod Refused
pub mod Offset
pub mod Accepted
pub mod Faults
pub mod Meaning
pub mod Laws
pub mod SourceLaws
