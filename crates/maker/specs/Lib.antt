pub mod Calls
pub mod Load
pub mod Steps
pub mod inner
