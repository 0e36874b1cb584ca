-- The lemmas about the place machine, a topic to a file. Assumes nothing.
pub mod Copies
pub mod Either
pub mod Later
pub mod Lawful
pub mod Lettering
pub mod Moving
pub mod Optional
pub mod Parts
pub mod Smallest
pub mod Standing
pub mod Star
pub mod Tabling
pub mod Then
