-- what a mark is
pub mod Words
pub mod Places
pub mod Readings
pub mod Comments
pub mod ChartComments
pub mod Statements
-- what marks accept
pub mod Accepting
-- what the code keeps
pub mod Named
pub mod Kept
