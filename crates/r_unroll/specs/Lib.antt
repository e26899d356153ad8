pub mod Rule
pub mod Laws
pub mod Edit
pub mod Asked
pub mod WalkLaws
pub mod AskedAt
