pub mod TypedOperands
pub mod OperatorLaws
pub mod NamesLaws
pub mod PlaceLaws
