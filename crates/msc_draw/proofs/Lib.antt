pub mod Listings
mod Lists
mod NoteLemmas
mod EndLemmas
mod MarkingLemmas
mod NumberLemmas
