-- The laws of the registers.
pub mod Meant
pub mod Banks
pub mod Requests
