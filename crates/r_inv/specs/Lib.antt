pub mod Rule
pub mod Plan
pub mod Laws
pub mod Listed
pub mod SweepLaws
pub mod Shape
pub mod Carried
pub mod Cost
