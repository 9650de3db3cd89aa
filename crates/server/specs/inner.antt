pub mod Keep
pub mod Places
pub mod Receive
pub mod Serve
pub mod Spread
