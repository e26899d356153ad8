pub mod Answered
pub mod Lambdas
pub mod FunctionFits
