mod Cases
pub mod Laws
mod Moves
mod Scans
