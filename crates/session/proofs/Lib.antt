-- The laws of a session.
pub mod Inputs
