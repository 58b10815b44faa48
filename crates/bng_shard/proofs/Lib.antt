pub mod Holding
pub mod KeyLaws
pub mod Stepping
pub mod Reaping
pub mod AskedPool
pub mod Answered
