-- Short witnesses: what they show, and how they are made.
pub mod Pigeons
pub mod SameSteps
pub mod ShortWitnesses
pub mod PlaceLemmas
pub mod TurnLemmas
pub mod ShortSteps
pub mod NextShort
pub mod ShortExists
pub mod Showing
