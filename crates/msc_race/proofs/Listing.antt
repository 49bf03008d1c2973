-- The list of races: pairs, rows of words, and the drawn pairs of a line.
pub mod Pairs
pub mod Ascending
pub mod Words
pub mod Gaps
pub mod Counts
pub mod OpenPairs
pub mod DrawnPairs
pub mod Verdicts
pub mod Raced
