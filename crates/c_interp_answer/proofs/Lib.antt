pub mod Known
pub mod Arms
pub mod Pushed
