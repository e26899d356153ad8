pub mod lemmas
mod Entered
mod Near
mod Has
mod HasExpressions
mod HasDeclarations
mod HasStatements
mod HasFunctions
