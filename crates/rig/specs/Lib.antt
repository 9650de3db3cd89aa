pub mod Alike
pub mod Calls
pub mod InPlace
pub mod OneEvent
pub mod Runs
pub mod inner
