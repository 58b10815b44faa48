pub mod Clock
pub mod Frames
pub mod Operator
pub mod Queue
pub mod Script
pub mod Server
pub mod Telling
