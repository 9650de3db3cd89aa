pub mod Algebra
pub mod Below
pub mod Bytes
pub mod Lists
pub mod Owners
pub mod Parts
pub mod Servers
