pub mod Rule
pub mod Laws
pub mod Edit
pub mod Walk
pub mod WalkLaws
pub mod Walks
