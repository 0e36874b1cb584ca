pub mod Order
pub mod Whole
