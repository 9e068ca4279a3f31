pub mod Words
pub mod Line
pub mod Numbers
pub mod Texts
pub mod Behind
pub mod Faults
pub mod Sentences
pub mod Next
