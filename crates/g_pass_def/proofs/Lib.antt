pub mod lemmas
mod Chosen
mod Images
mod Kept
mod Recipes
mod Replayed
