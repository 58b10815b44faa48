pub mod Clock
pub mod Ends
pub mod Handing
pub mod Places
pub mod Readiness
pub mod Sockets
pub mod Taking
pub mod Words
