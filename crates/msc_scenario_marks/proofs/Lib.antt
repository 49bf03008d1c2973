-- which races are accepted: put into a set race by race
pub mod Putting
-- numbers that pass a test
pub mod Listing
-- where lines begin
pub mod Rising
