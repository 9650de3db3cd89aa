pub mod Begin
pub mod CrashOrRestart
pub mod Deliver
pub mod Message
pub mod Part
pub mod Questions
pub mod Turn
