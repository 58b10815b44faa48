pub mod Classes
pub mod Grants
