pub mod Bits
pub mod Fronts
pub mod Known
pub mod Ready
pub mod Roles
