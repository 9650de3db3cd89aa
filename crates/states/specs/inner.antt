pub mod Clients
pub mod Servers
