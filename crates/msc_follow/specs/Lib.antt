-- what is promised
pub mod Steps
pub mod Following
pub mod Laws
-- what the code keeps
pub mod Paths
pub mod Tables
