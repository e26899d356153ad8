pub mod Rule
pub mod Called
pub mod Laws
pub mod Callees
pub mod Asked
pub mod WalkLaws
pub mod AskedAt
