-- what is promised
pub mod Refusals
pub mod Texts
pub mod Verdicts
pub mod Links
pub mod Heads
pub mod Traces
pub mod EventTexts
pub mod Styles
pub mod Lists
pub mod Stale
pub mod Lines
pub mod Counts
pub mod Editors
pub mod Reasons
pub mod Following
pub mod BlockedPairs
pub mod Rounds
pub mod ReadyFormats
pub mod Fitting
-- what the code keeps
pub mod Spans
pub mod EventPositionTexts
