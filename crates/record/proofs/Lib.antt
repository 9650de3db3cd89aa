pub mod Answers
mod Bytes
pub mod Callers
pub mod Clauses
pub mod Laws
pub mod Parties
pub mod Written
pub mod Records
