pub mod Exits
pub mod Number
pub mod OwnersWithin
pub mod Questions
pub mod Refusals
pub mod Rooms
pub mod Sizes
pub mod Valid
