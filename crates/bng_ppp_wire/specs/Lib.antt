pub mod Codes
pub mod Protocols
pub mod View
pub mod Listing
pub mod MadeOption
pub mod OptionTable
pub mod Judgement
pub mod ConfigureReply
