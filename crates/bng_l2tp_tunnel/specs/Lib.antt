pub mod Messages
pub mod TunnelState
pub mod Refusals
pub mod Spelling
pub mod Outs
pub mod Steps
pub mod Sound
