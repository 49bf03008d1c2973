pub mod Chains
pub mod Ranges
mod Apart
pub mod PlainTrees
mod PlainWords
pub mod PlainSvg
mod RowLemmas
