pub mod Interpreted
pub mod Machines
pub mod Steps
pub mod Calls
pub mod Ports
pub mod Begun
pub mod Known
