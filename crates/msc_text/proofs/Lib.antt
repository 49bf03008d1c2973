pub mod Barred
pub mod Judgements
pub mod Readied
pub mod BlockedPairLemmas
pub mod FirstOnes
