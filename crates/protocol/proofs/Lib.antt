pub mod Evaluate
mod Example
mod Coded
pub mod Basics
pub mod Judged
pub mod Keys
mod Quorum
pub mod Pairs
mod World
mod Monotone
mod LogUp
mod LogChose
mod LogEnded
mod LogBegan
mod LogWithdrew
mod Change
pub mod Store
mod ServerMove
mod Send
mod Count
mod EndOfAsking
mod ClientChange
pub mod Present
mod Choose
mod Settle
mod Events
mod Recorded
mod Fresh
pub mod Flight
pub mod Reordered
pub mod Alike
pub mod Limited
pub mod EqualRanks
mod Move
mod Hosts
mod Sort
mod Replay
mod Order
mod Endings
mod Calls
pub mod Room
mod Theorem
pub mod NetworkMoves
pub mod Together
pub mod NetworkRuns
pub mod NetworkCalls
pub mod NetworkRoom
pub mod Alone
pub mod Agreement
pub mod OneBoard
pub mod Restart
mod Refute
mod Teeth
pub mod Cut
pub mod Boards
pub mod NetworkAtomic
pub mod Decoded
mod ShortBoards
mod Lengths
mod Cleared
mod Ties
mod HostsExample
mod NetworkExample
mod RestartExample
pub mod Few
pub mod Sound
pub mod Formed
pub mod Hosted
