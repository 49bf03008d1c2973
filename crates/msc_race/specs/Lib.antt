-- what is promised
pub mod Laws
pub mod Races
pub mod Wired
pub mod Views
pub mod Reversals
pub mod Short
pub mod ShortLaws
pub mod Shown
pub mod Gaps
pub mod Walks
pub mod Samples
-- what the code keeps
pub mod Choices
pub mod Rows
pub mod Words
pub mod Remainders
pub mod Fronts
pub mod QueuedRuns
pub mod Beginnings
pub mod PastEvents
pub mod Shortenings
