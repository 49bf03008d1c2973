-- where faults stand
pub mod FaultPlaces
-- events that are counted
pub mod Counted
pub mod ChartPlaces
-- the first of several
pub mod Firsts
pub mod Acts
pub mod Named
-- all faults of a draft
pub mod Ordered
pub mod Putting
pub mod Sets
pub mod Parts
pub mod SameEnds
pub mod AllFaults
pub mod Ends
pub mod Together
