pub mod Answers
mod Drawn
mod Six
mod Stepped
pub mod Made
pub mod Quoted
