-- What `drill` reads and prints.
pub mod Commands
pub mod Words
pub mod Text
pub mod Answers
pub mod Sessions
pub mod Steps
