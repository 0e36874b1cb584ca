pub mod Climbing
pub mod Entries
pub mod Gathering
pub mod Halving
pub mod Putting
pub mod Texts
pub mod Trees
