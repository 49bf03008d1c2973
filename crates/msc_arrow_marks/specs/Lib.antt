-- how a comment reads
pub mod Parts
pub mod Heads
pub mod Readings
pub mod Labels
-- the marks of a diagram
pub mod Below
pub mod Marks
pub mod Accepting
-- what is promised
pub mod Laws
