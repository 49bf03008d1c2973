-- what rules mean
pub mod Blanks
pub mod Names
pub mod Links
pub mod Rules
pub mod Comments
pub mod Listed
pub mod Said
pub mod Laws
-- what the code keeps
pub mod Tables
