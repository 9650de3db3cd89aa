pub mod Decimal
pub mod Events
pub mod Saying
pub mod Texts
