pub mod Looks
pub mod Interims
