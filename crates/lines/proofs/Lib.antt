-- The laws of line changes.
pub mod Changes
