-- what is promised
pub mod Positions
pub mod Excerpts
pub mod Standing
pub mod TokensAt
pub mod Texts
pub mod EventPositions
-- what the code keeps
pub mod Collecting
pub mod Marks
