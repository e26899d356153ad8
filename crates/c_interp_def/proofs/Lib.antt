pub mod Steps
pub mod PlaceLaws
pub mod ExprLaws
pub mod StmtLaws
pub mod CallProofs
