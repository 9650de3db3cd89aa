pub mod Again
pub mod Calls
pub mod Questions
pub mod Quorum
pub mod Send
pub mod Servers
pub mod State
pub mod inner
