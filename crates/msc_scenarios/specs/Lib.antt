-- what is promised
pub mod Naming
pub mod Steps
pub mod Counting
pub mod Choosing
pub mod Histories
pub mod Laws
pub mod Outside
