pub mod Table
pub mod Counter
pub mod Timer
pub mod Machine
pub mod Steps
