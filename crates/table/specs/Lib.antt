pub mod Count
pub mod Keyed
pub mod Held
pub mod Order
pub mod Law
