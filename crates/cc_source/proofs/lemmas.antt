pub mod Sources
pub mod Small
