pub mod Figures
pub mod Lengths
pub mod Cleared
pub mod Load
pub mod Ranks
