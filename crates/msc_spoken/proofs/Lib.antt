pub mod ReplacingLemmas
pub mod SpeakingLemmas
pub mod CuttingLemmas
pub mod NumberLemmas
pub mod ShownLemmas
pub mod ReadingLemmas
