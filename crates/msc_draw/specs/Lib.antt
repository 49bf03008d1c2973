-- what is promised
pub mod PictureFormats
pub mod Verdicts
pub mod Pictures
pub mod Numbering
-- what the code keeps
pub mod Listed
pub mod Notes
pub mod Marking
