pub mod Exclusive
pub mod Trimmed
pub mod Readings
pub mod Metering
