pub mod Counts
pub mod Laws
pub mod Orders
pub mod Rooms
mod Opened
mod Picks
