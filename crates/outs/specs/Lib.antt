pub mod Texts
pub mod Outs
pub mod Adding
pub mod Laws
