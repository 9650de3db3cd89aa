mod Answers
pub mod Asked
mod Counting
mod Elements
mod Fronts
mod Gathering
pub mod Once
mod Onward
pub mod Phases
pub mod Quorum
pub mod Ranks
mod Receiving
pub mod Seen
pub mod Sends
mod Sending
pub mod Sets
mod Settling
pub mod Shown
mod Stepping
pub mod Theorems
mod Owned
