-- What the set machine over a place machine is and what holds of it. Assumes nothing.
pub mod Building
pub mod Built
pub mod Maps
pub mod Runs
pub mod Shown
pub mod Starting
pub mod Tables
