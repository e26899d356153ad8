pub mod Rule
pub mod Laws
pub mod Listed
pub mod SweepLaws
pub mod First
