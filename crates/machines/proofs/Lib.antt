pub mod EmptyPattern
pub mod PlaceLemmas
pub mod SetLemmas
pub mod Worked
