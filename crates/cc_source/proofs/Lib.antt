pub mod lemmas
mod RefusalLaws
mod Lines
mod Short
mod Determined
mod Decided
mod Programs
mod Kept
mod Calls
mod Constants
mod Characters
mod Tokens
mod Checked
mod GroupShapes
mod FewGroups
mod FewFunctions
mod CheckedFew
