pub mod Quoting
pub mod Messages
pub mod Names
