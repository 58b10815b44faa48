pub mod Room
pub mod Fits
pub mod Handling
