-- what is promised
pub mod Texts
pub mod Inputs
pub mod Faults
pub mod Reading
-- what the code keeps
pub mod Calls
