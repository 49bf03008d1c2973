mod Events
mod FollowLemmas
mod DrawnLemmas
mod CourseLemmas
mod OpenLemmas
mod ReadyLemmas
mod NextListed
mod SearchLemmas
mod RankLemmas
mod Wholes
pub mod Ranges
mod Parts
mod Lines
mod RunWitness
mod Laying
mod RankOrder
mod QueuedLemmas
mod RowLemmas
mod RunOrder
mod RunLaws
pub mod Reaching
pub mod Standing
pub mod MarkLemmas
mod BandLemmas
pub mod PlainBytes
mod PlainTexts
mod PlainScenes
pub mod SegmentLemmas
mod ExtentLemmas
mod PutLemmas
mod SpanLemmas
mod SignLemmas
