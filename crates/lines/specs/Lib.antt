pub mod Block
pub mod Event
pub mod Line
pub mod Program
pub mod Several
pub mod Text
