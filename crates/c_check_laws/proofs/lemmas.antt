pub mod States
pub mod Steps
pub mod Terms
mod CalledTerms
mod Expressions
pub mod Later
pub mod StatementSteps
mod ConstantWords
mod Labels
mod Statements
pub mod Shapes
pub mod ExpressionShapes
mod There
mod ThereExpressions
pub mod Types
mod Definitions
pub mod Parts
mod Initialisers
mod Locals
mod Declared
mod Widened
pub mod Quiet
pub mod Texts
mod StatementTexts
mod Goes
pub mod GoesLocals
mod GoesStatements
pub mod File
pub mod Structs
mod Names
mod Globals
pub mod GlobalDeclared
pub mod Params
mod DeclaredFunctions
pub mod FunctionBodies
mod TypedFunctions
pub mod FunctionMoved
pub mod FileSteps
pub mod FileShapes
pub mod Accepted
