pub mod Laws
mod Pasting
mod Rows
mod Numerals
mod Decoding
mod Cuts
pub mod Made
