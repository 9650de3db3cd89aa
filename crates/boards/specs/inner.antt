pub mod CrashOrRestart
pub mod Fresh
pub mod Named
pub mod Outcome
pub mod Questions
