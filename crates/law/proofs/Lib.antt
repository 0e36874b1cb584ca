pub mod Order
mod Meaning
mod Wholly
