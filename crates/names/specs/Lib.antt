pub mod Texts
pub mod Shelf
pub mod Kept
pub mod Book
pub mod Laws
