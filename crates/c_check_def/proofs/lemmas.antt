pub mod SameType
