-- events in words
pub mod Events
-- how messages arrive
pub mod Ways
-- numbers
pub mod Numbers
-- findings
pub mod Pairs
pub mod Races
pub mod Blocked
pub mod Stale
pub mod Rings
pub mod Scenarios
-- what shows them
pub mod Runs
-- what is found of a text
pub mod Checking
pub mod Readying
pub mod Closing
