mod Agreeing
pub mod Blanking
pub mod Counting
mod Fitting
mod Liking
pub mod Listing
mod Meeting
pub mod Numbers
mod Reached
mod Reading
mod Searching
