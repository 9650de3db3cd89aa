pub mod Config
pub mod Lengths
pub mod Number
pub mod Questions
pub mod Refusal
pub mod Room
