pub mod Stepped
pub mod InHand
