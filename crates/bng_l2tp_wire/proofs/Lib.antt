pub mod Exactly
pub mod AvpLaws
pub mod AvpSteps
pub mod Exact
pub mod Spelled
pub mod Placing
pub mod Judging
