-- what is promised
pub mod Places
pub mod Forms
pub mod Grammar
pub mod Parsing
pub mod Table
pub mod Canonical
pub mod Drafts
pub mod Expectations
-- what the code keeps
pub mod Reading
