pub mod Automata
pub mod Building
pub mod Maps
pub mod Parts
pub mod Runs
pub mod Starts
