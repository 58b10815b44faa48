pub mod Sessions
pub mod Listed
