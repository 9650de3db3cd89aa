mod Tied
mod Made
mod Servers
mod Clients
pub mod Atomic
mod Outcomes
mod Codes
mod Kept
mod Fresh
pub mod Some
