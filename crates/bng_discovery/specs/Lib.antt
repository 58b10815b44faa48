pub mod Request
pub mod Reply
pub mod Table
pub mod Cases
