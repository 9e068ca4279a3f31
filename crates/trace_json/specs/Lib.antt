pub mod Json
pub mod Laws
