-- what is promised
pub mod Names
pub mod Walks
