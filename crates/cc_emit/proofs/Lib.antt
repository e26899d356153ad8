mod Emitted
pub mod lemmas
mod Below
mod Bytes
mod CodeSize
mod Examples
mod Globals
mod Placed
mod Sections
mod Selects
mod Shared
mod Short
mod Programs
mod LoadedFunctions
mod Images
