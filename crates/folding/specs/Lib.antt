pub mod Cells
pub mod Keeping
pub mod Legs
pub mod Losing
pub mod Sets
pub mod Tallies
pub mod Texts
