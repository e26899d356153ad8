pub mod Places
pub mod Laws
pub mod Sweep
pub mod Placed
pub mod Share
pub mod Marks
pub mod ShareLaws
pub mod Turns
