pub mod Charts
pub mod Words
pub mod Shown
pub mod Marks
