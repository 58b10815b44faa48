pub mod Filling
pub mod Forgetting
pub mod Offers
