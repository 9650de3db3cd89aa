pub mod Calls
pub mod OneEvent
pub mod Questions
pub mod Runs
pub mod View
pub mod inner
