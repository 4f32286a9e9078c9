-- The laws of the system registers.
pub mod Registers
pub mod Sgis
