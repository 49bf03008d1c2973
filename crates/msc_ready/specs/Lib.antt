-- what is promised
pub mod Readiness
pub mod BlockedPairs
pub mod Finishing
pub mod Running
pub mod Laws
pub mod Held
pub mod Views
pub mod Rounds
pub mod RoundLaws
-- what the code keeps
pub mod QueueNumbers
pub mod Plain
pub mod Rows
pub mod Lesser
pub mod Looking
pub mod Beginnings
