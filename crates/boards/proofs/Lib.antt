pub mod Agreement
pub mod Always
mod Asked
pub mod Atomic
pub mod Bounds
mod Coded
pub mod Codes
mod Due
mod EachBoard
mod EachSize
mod Entering
pub mod Going
pub mod Isolation
mod Kept
mod Leaving
mod Lending
mod Making
pub mod Model
mod NamedCode
mod NamedEvent
mod NamedTurn
pub mod Never
pub mod OnBoard
mod OnEveryBoard
pub mod OneOf
mod Owned
pub mod Refusing
pub mod Restart
pub mod Shown
pub mod UpAlike
pub mod Whole
