pub mod Calls
pub mod Questions
pub mod View
pub mod inner
