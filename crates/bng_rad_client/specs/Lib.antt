pub mod Table
pub mod Due
pub mod Requests
pub mod Replies
pub mod Asking
pub mod Sends
pub mod State
pub mod DueRequests
