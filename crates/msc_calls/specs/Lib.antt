-- what is promised
pub mod Answers
pub mod Checking
pub mod Running
-- what the code keeps
pub mod Plain
