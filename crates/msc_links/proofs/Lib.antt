pub mod Splitting
pub mod SameLinks
pub mod Entering
pub mod Orderings
pub mod Ruling
pub mod Reading
pub mod Clauses
