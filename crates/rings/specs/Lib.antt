-- what is promised
pub mod Rings
-- what the code keeps
pub mod Searching
pub mod Walking
