pub mod SlotViews
pub mod Places
pub mod Numbers
pub mod Work
pub mod WorkCodes
pub mod Parts
pub mod Choices
