pub mod Examples
pub mod Place
pub mod Reached
pub mod Set
pub mod Soundness
