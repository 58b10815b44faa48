pub mod Entries
pub mod Numbers
pub mod MapSums
pub mod SessionLaws
