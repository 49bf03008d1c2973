-- Small charts, by computing.
pub mod RunTests
pub mod RaceLists
pub mod RaceRows
pub mod OneOrOther
