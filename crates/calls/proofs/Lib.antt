-- The laws of the public calls.
pub mod Fronts
