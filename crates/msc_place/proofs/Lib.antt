-- where lines begin and end
pub mod LineLemmas
pub mod PositionLemmas
pub mod MarkLemmas
-- what the walks over tokens collect
pub mod Collected
pub mod Walks
-- which tokens of a chart begin its parts
pub mod Passing
pub mod EventWalks
pub mod SectionWalks
pub mod HeaderWalks
-- where the parts of a draft stand
pub mod EventParts
pub mod StandingLemmas
pub mod InsideLemmas
pub mod OneBeginning
pub mod OnLines
pub mod EventPositionLemmas
pub mod SpotLemmas
