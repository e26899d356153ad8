pub mod Later
pub mod LaterExpressions
pub mod LaterStatements
pub mod Programs
