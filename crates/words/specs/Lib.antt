-- What the functions on words give.
pub mod Words
