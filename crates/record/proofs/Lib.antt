-- The laws of the record.
pub mod Groups
pub mod Bytes
pub mod Lists
pub mod Walking
pub mod Order
pub mod Shapes
pub mod Standing
pub mod Saving
pub mod Filling
pub mod Loading
pub mod Cleared
pub mod Walks
pub mod Settled
