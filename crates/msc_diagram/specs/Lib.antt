-- what is promised
pub mod Faults
pub mod Places
pub mod Checks
pub mod Marked
pub mod Scenarios
pub mod Stale
pub mod Counts
pub mod Judging
pub mod Telling
pub mod Laws
pub mod Lent
pub mod Arrows
pub mod Tallies
pub mod Full
pub mod Closing
pub mod NewRaces
