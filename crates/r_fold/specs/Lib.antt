pub mod Rule
pub mod Laws
pub mod Plan
pub mod Asked
pub mod WalkLaws
pub mod Said
