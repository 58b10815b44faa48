pub mod Pools
pub mod Rules
pub mod Configuration
pub mod Texts
pub mod Sound
pub mod Gateway
pub mod Ends
pub mod Radius
