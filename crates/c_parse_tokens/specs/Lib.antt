pub mod Reading
pub mod Ahead
pub mod Operands
pub mod Counters
pub mod LeftOut
pub mod TooDeep
