pub mod Formats
pub mod Closing
pub mod Runs
pub mod Findings
pub mod Rounds
pub mod Sticks
pub mod Scenarios
