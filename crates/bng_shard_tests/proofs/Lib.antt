pub mod OneCircuit
pub mod Benches
