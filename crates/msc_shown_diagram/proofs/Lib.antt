pub mod LoopLemmas
pub mod ChoiceLemmas
