pub mod WordLemmas
pub mod MarkLemmas
pub mod Formats
