pub mod Flight
pub mod Owners
