pub mod Fitting
pub mod Short
pub mod Sending
pub mod Sizes
