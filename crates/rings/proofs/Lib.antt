-- the search for how far numbers are away
pub mod Searching
pub mod SearchSteps
-- the walk along the nearest numbers
pub mod Walks
