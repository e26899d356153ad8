pub mod Faults
pub mod Functions
pub mod Codes
pub mod Params
pub mod MemberLists
pub mod Structs
