-- What the place machine of a pattern is, how it is put together and what holds of it. Assumes nothing.
pub mod Built
pub mod Fragments
pub mod Laws
pub mod Letters
pub mod Making
pub mod Operations
pub mod Runs
pub mod Shown
pub mod Spellings
pub mod Standing
pub mod Tables
