pub mod Lifetimes
pub mod Runs
