mod Decoded
pub mod lemmas
mod DecodedEncodes
mod Hex
