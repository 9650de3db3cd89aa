mod Answers
mod Bytes
mod Owned
mod Rows
