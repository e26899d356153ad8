pub mod Need
pub mod Spans
pub mod Laws
