-- the arrows of a scenario
pub mod Met
-- the comments of its events
pub mod Comments
-- the text with comments
pub mod Commented
-- both
pub mod Marked
