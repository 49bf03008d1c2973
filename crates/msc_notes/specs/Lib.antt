-- what is promised
pub mod Notes
pub mod Sorts
pub mod Faults
pub mod FaultNotes
pub mod Behind
pub mod Texts
pub mod AllFaults
-- what the code keeps
pub mod Events
pub mod Putting
