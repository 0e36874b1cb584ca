pub mod Masks
pub mod Relations
