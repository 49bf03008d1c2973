pub mod Answers
pub mod Charts
pub mod Ends
pub mod Parses
pub mod Parts
pub mod Rings
