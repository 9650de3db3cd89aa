mod Back
pub mod Laws
mod Owned
pub mod Packed
