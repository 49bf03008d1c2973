-- what is promised
pub mod Accepting
pub mod Idle
pub mod Places
