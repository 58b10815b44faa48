pub mod Authentication
pub mod Mixing
pub mod Hiding
