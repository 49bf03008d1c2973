-- what is promised
pub mod Roles
pub mod Logs
pub mod Growth
pub mod Running
pub mod Executions
pub mod Settling
pub mod Clocks
pub mod Timed
pub mod ClockLaws
pub mod Shown
pub mod Fits
pub mod Samples
