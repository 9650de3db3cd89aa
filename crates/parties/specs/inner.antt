pub mod Acted
pub mod Fresh
