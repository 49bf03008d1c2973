-- what is promised
pub mod Judging
pub mod Explaining
pub mod Following
pub mod StickFormats
pub mod Readying
-- what the code keeps
pub mod LeftRaces
pub mod Readied
