-- a list of tokens is at most one chart
pub mod Tokens
pub mod Decided
pub mod OnePart
pub mod OneChart
-- the table fits the grammar, and the first fault stands where a walk ends
pub mod Leading
pub mod Accepting
pub mod Following
pub mod Backwards
pub mod Continuing
pub mod FirstFault
pub mod Fitting
pub mod Answering
-- what the functions read
pub mod Steps
pub mod Endings
pub mod Parts
pub mod Headings
pub mod Signals
pub mod Actions
pub mod Lines
pub mod Whole
-- what every draft keeps
pub mod Counting
pub mod Naming
-- what is written is read again
pub mod Wording
pub mod Printing
pub mod PrintedParts
pub mod PrintedChart
