pub mod Alike
pub mod Calls
pub mod Received
pub mod View
pub mod Within
pub mod inner
