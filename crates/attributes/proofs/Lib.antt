-- The laws of the attribute calls.
pub mod Placing
pub mod Items
pub mod Naming
pub mod Groups
