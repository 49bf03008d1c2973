-- one step of each walk
pub mod Steps
-- walks over the words of a mark
pub mod Hearing
-- the mark of an event, looked up
pub mod Looking
-- which events have marks that fit
pub mod Noting
pub mod Pairing
-- the comments of statements
pub mod Heard
pub mod Collecting
-- the events that marks name, by number
pub mod Numbers
pub mod Idents
pub mod Naming
pub mod Rows
