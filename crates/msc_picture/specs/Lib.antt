-- what is promised
pub mod Frames
pub mod RunFrames
pub mod Rows
pub mod Bars
pub mod Scenes
pub mod Columns
pub mod Pieces
pub mod Texts
pub mod Plain
pub mod Laws
-- what the code keeps
pub mod Courses
pub mod Drawn
pub mod Ready
pub mod Extents
pub mod Signs
