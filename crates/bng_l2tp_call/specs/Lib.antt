pub mod Messages
pub mod CallState
pub mod Refusals
pub mod Spelling
pub mod Steps
pub mod Cases
pub mod Sound
