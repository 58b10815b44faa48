pub mod Invariant
pub mod State
pub mod Replies
pub mod Due
pub mod Asking
pub mod Sends
pub mod Laws
pub mod Turns
