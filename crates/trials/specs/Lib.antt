pub mod Thirds
pub mod Zeroless
