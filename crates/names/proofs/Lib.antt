pub mod Numbers
pub mod Parts
pub mod Shelves
pub mod Books
pub mod Laws
