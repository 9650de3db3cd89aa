pub mod Tag
