pub mod Requests
pub mod Padding
