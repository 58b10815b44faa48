pub mod Counts
pub mod Ages
pub mod Firsts
pub mod Numbers
pub mod Lanes
pub mod Places
