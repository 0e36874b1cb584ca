mod Over
mod Rolls
