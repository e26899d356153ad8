pub mod Compiled
pub mod RecipeText
pub mod MeaningLaws
pub mod Constant
pub mod ConstantExits
pub mod RunLaws
