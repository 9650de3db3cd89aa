pub mod Byte
mod Generator
pub mod Laws
pub mod Linear
mod Tables
