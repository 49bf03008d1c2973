-- what is promised
pub mod Running
