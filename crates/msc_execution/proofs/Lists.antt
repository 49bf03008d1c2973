pub mod Words
pub mod Ranges
pub mod Among
