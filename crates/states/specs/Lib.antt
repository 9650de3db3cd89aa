pub mod Bytes
pub mod Clients
pub mod Servers
pub mod inner
