pub mod Bits
pub mod Combining
pub mod Composing
pub mod Filling
pub mod Images
pub mod Rows
pub mod Shifts
