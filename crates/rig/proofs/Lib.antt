pub mod Alike
pub mod Always
pub mod Atomic
mod CrashOrRestart
mod Entry
pub mod Going
pub mod InPlace
mod Making
pub mod Model
pub mod Never
mod Owned
pub mod Restart
pub mod Witness
