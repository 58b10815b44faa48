pub mod Codes
pub mod TagTypes
pub mod View
pub mod Front
pub mod Scan
pub mod Frame
