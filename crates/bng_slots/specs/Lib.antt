pub mod Orders
pub mod OrderLaws
pub mod Listing
pub mod Bits
pub mod Shelves
pub mod Inside
