-- what is promised
pub mod Gathering
pub mod Schedule
pub mod Heads
pub mod Laws
-- what the code keeps
pub mod Marks
pub mod Links
pub mod Merges
pub mod Held
