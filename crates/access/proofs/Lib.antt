-- The laws of the accesses.
pub mod Accesses
pub mod Systems
