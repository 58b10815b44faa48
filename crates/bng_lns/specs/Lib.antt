pub mod Datagrams
pub mod Framing
pub mod Places
pub mod Tunnels
pub mod Timed
pub mod Exchange
