pub mod Expressions
pub mod SameNonterminal
pub mod TypeViews
pub mod Reads
pub mod FirstDeep
