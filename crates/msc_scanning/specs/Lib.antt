-- what is promised
pub mod Outcomes
pub mod LastLines
pub mod Words
pub mod Folding
pub mod Naming
pub mod Putting
pub mod Queued
pub mod Refusing
pub mod Linking
pub mod Charts
pub mod Diagrams
pub mod Holding
pub mod Texts
pub mod Progress
pub mod Files
pub mod Rounds
pub mod Scans
