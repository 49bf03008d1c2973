pub mod Refusals
pub mod Shown
pub mod Told
pub mod Plain
pub mod Verdicts
pub mod Started
