pub mod Fresh
pub mod Turn
pub mod Within
