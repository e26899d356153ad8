pub mod ParsedArguments
pub mod Forms
pub mod Command
pub mod Arguments
pub mod Reading
pub mod PlainCommand
pub mod CommandRows
