pub mod Requests
pub mod Replying
pub mod Questions
