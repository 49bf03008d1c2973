-- what is promised
pub mod Places
pub mod Plain
pub mod Spans
