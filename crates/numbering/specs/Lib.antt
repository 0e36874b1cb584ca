pub mod Filling
pub mod Laws
pub mod Numbering
pub mod Reaching
pub mod Searching
