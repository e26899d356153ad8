pub mod EncodedDecodes
pub mod EncodedFitsWord
pub mod WordParts
