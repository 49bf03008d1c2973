-- what is promised
pub mod Closest
pub mod Causes
pub mod Kinds
pub mod PairTables
pub mod LeftOut
pub mod Counting
pub mod CountingLaws
pub mod Selected
pub mod Chains
pub mod Links
pub mod Rules
pub mod Reasons
pub mod Pairs
pub mod Named
pub mod Laws
-- what the code keeps
pub mod Marked
