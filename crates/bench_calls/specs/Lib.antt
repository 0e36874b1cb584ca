pub mod Answers
pub mod Rolls
