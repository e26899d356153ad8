pub mod Contained
