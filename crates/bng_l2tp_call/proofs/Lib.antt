pub mod Table
pub mod Codes
pub mod Soundness
pub mod Told
