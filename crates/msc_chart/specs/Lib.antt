-- what is promised
pub mod Lists
pub mod Events
pub mod Charts
pub mod Charting
pub mod Drawings
pub mod Items
pub mod Architectures
pub mod Orders
pub mod Precedence
pub mod Wirings
pub mod Runs
pub mod Witness
pub mod Rounds
pub mod RoundLaws
pub mod Faults
pub mod Laws
pub mod Samples
-- what the code keeps
pub mod Building
pub mod Views
pub mod Hashing
pub mod Numbering
pub mod Tables
pub mod Sortings
pub mod Reach
pub mod Spans
