pub mod Removals
pub mod Laws
pub mod Exit
pub mod Walk
pub mod Measure
pub mod Fast
