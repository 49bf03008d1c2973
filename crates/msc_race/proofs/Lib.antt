pub mod Shared
pub mod Runs
pub mod Listing
pub mod Worked
pub mod Making
pub mod Pasts
