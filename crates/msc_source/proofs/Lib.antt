pub mod ReadingLemmas
pub mod OneWay
pub mod Beginnings
