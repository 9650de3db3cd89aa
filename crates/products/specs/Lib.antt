pub mod Multiplier
