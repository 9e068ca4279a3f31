pub mod Kinds
pub mod Said
pub mod Rules
pub mod Held
