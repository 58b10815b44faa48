pub mod TagLaws
pub mod TagSteps
pub mod Scanning
pub mod Judging
pub mod Spelled
