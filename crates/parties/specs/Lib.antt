pub mod Acts
pub mod Fresh
pub mod Within
pub mod inner
