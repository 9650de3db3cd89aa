pub mod Asked
mod Clients
pub mod Alone
pub mod Entry
pub mod Inside
pub mod Lengths
pub mod Numbers
pub mod Pairs
mod Ready
pub mod RigWithin
mod Seen
mod Sends
mod Six
