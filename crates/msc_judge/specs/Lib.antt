-- what is promised
pub mod Options
pub mod Renderings
pub mod Findings
pub mod Telling
pub mod Rows
pub mod Rounds
pub mod Between
