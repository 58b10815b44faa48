pub mod Exactly
pub mod OptionLaws
pub mod OptionSteps
pub mod ListingExact
pub mod NamesLaws
pub mod JudgementLaws
pub mod ReplyLaws
