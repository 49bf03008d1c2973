pub mod Fresh
pub mod Told
pub mod Paging
pub mod Below
pub mod Knowing
pub mod Growing
pub mod Clearing
pub mod Same
pub mod Above
pub mod Adding
pub mod Answering
pub mod Tallying
pub mod Seen
pub mod Leaving
mod NewLists
