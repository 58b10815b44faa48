pub mod Finding
pub mod Numbered
mod Payloads
pub mod Keeping
pub mod Hearing
mod Given
pub mod Exchanging
mod Earliest
pub mod Reminding
pub mod Timing
