-- Lemmas, and no definition that a contract cites: the proof of a trait's law may cite specs/ alone, and the law that a place
-- machine means some text rests on these. A reader can leave them to the checker, as what stands in proofs/. Assumes nothing.
pub mod Chains
pub mod Joining
pub mod Judging
pub mod Least
pub mod Linear
pub mod Machine
pub mod Repeating
pub mod Running
pub mod Searching
pub mod Spelling
pub mod Splits
pub mod Spread
pub mod Symbols
