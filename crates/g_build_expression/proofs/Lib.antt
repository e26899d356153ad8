pub mod lemmas
pub mod Renaming
pub mod Slots
pub mod Ends
pub mod Sizes
