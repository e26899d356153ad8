pub mod Cuts
pub mod Firsts
pub mod Scripts
pub mod Takes
pub mod Said
