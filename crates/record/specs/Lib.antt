pub mod Calls
pub mod Element
pub mod Kinds
pub mod inner
pub mod Message
pub mod Record
pub mod Records
