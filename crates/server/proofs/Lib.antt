pub mod Alike
pub mod Answered
mod Answering
pub mod Asked
mod Begin
pub mod Each
mod Figures
mod Handed
pub mod Invariant
mod Keep
pub mod Laws
mod Lending
pub mod Limits
mod Lists
pub mod Owned
pub mod Ranks
mod Received
mod Sent
mod Spots
mod Stepping
mod Tags
mod Views
