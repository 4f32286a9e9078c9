-- The laws of the set-up calls.
pub mod Written
pub mod Admitted
