pub mod Agreement
pub mod Programs
pub mod Closed
pub mod Laws
