-- The laws between the machine's operations on words and the bits of the definitions.
pub mod Operators
pub mod Expressions
pub mod Edges
pub mod Over
pub mod Masks
pub mod Pending
