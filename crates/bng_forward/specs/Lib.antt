pub mod Cases
pub mod Meters
pub mod Packets
pub mod Fates
pub mod Arrived
pub mod Framing
