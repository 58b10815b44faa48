pub mod Numbers
pub mod ChannelState
pub mod Flight
pub mod Calls
pub mod Timers
pub mod Shown
pub mod Ring
pub mod World
