pub mod Back
pub mod Accepted
pub mod Ran
pub mod Placed
pub mod Sampled
