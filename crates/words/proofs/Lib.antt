pub mod Codes
pub mod Parts
pub mod Writing
pub mod Laws
