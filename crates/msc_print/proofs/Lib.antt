pub mod KnownBytes
pub mod PrintLemmas
pub mod Putting
pub mod RowLemmas
