-- what is promised
pub mod Views
pub mod Gates
-- what the code keeps
pub mod Steps
pub mod Active
pub mod Taking
pub mod Handing
pub mod Fitting
pub mod Threads
pub mod Buckets
