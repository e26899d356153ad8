pub mod Units
pub mod Search
pub mod Laws
