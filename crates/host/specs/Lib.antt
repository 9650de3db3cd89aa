pub mod Calls
pub mod Config
pub mod Outcome
pub mod Runs
pub mod inner
