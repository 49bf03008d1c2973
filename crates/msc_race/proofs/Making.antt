-- How a witness is made: what the code keeps, step by step.
pub mod ChoiceLemmas
pub mod RowLemmas
pub mod StateLemmas
pub mod SummaryLemmas
pub mod RemainderLemmas
pub mod FrontLemmas
pub mod LinkLemmas
pub mod ArrivedLemmas
pub mod ComingLemmas
pub mod ChangeLemmas
pub mod StartLemmas
pub mod BeginningLemmas
pub mod NextLemmas
