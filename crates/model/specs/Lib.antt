-- The definitions of document 01, in its order.
pub mod Values
pub mod Words
pub mod Layout
pub mod Roles
pub mod Interrupts
pub mod Sound
pub mod Refusals
pub mod Registers
pub mod Lines
pub mod Interface
pub mod Attributes
pub mod Record
pub mod Calls
pub mod Demands
