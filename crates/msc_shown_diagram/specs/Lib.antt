pub mod Spans
pub mod Loops
pub mod Branches
pub mod Choices
pub mod Words
pub mod Shown
pub mod Diagrams
pub mod Queues
