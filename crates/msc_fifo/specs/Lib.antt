-- what is promised
pub mod Lists
pub mod Entries
pub mod Identity
pub mod Claims
pub mod Ends
pub mod Settlement
pub mod Laws
-- what the code keeps
pub mod World
pub mod Views
pub mod Moves
pub mod Settling
pub mod Parts
