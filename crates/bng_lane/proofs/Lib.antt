pub mod Places
pub mod Replies
pub mod Signing
pub mod Clients
pub mod Answering
pub mod Knowing
pub mod Replying
