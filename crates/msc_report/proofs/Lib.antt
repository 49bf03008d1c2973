pub mod KindLemmas
pub mod EndLines
pub mod MadeTexts
pub mod MadeEventPositions
pub mod RoundLemmas
