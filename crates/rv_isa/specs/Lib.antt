pub mod Calls
pub mod Encodings
pub mod Formats
pub mod Registers
pub mod RoundTrip
pub mod WordParts
pub mod Words
pub mod Texts
