pub mod Filled
pub mod Judgements
pub mod Readings
pub mod Texts
