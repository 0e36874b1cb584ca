-- The lemmas about the set machine, a topic to a file. Assumes nothing.
pub mod Building
pub mod Built
pub mod Composing
pub mod Moving
pub mod Reaching
pub mod Simulating
pub mod Starting
pub mod Tabling
pub mod Walking
