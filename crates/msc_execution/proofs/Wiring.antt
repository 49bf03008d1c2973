pub mod Receivers
pub mod Logged
pub mod Fitted
pub mod Growing
pub mod Ranked
