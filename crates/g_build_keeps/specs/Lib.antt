pub mod NumberLaws
pub mod Laws
pub mod Exits
pub mod Groups
pub mod BuiltLaws
pub mod Formation
pub mod FormationLaws
