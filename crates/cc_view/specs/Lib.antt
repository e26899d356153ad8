pub mod Depths
pub mod Turns
pub mod Laws
pub mod Suffices
pub mod Shown
pub mod ViewEnds
pub mod Explanation
