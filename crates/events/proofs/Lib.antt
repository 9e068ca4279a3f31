pub mod Limits
pub mod Held
pub mod Keeps
pub mod Ranges
pub mod Parts
