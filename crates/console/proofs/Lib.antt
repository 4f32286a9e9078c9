-- The laws of the language of drill.
pub mod Spaces
pub mod Hex
pub mod Words
pub mod Blocks
pub mod Whole
