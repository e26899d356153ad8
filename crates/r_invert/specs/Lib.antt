pub mod Compose
pub mod Rule
pub mod Laws
pub mod Edit
pub mod Sound
pub mod Asked
pub mod WalkLaws
pub mod AskedAt
