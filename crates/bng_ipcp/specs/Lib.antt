pub mod Options
pub mod Judgement
pub mod ConfigureRequest
pub mod Ask
pub mod ConfigureReply
