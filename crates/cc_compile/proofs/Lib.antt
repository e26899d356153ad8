mod Recipes
mod MadeRows
mod RecipeTexts
mod ProgramFits
mod ConstantRun
mod ConstantExits
mod HeardExits
