-- Laws of ready runs and of the ready order, over definitions alone.
pub mod Keeping
pub mod Final
pub mod Progress
pub mod Growing
pub mod Acyclic
pub mod Fewer
pub mod Sticking
pub mod Passing
pub mod Whole
pub mod Lines
pub mod Reversing
pub mod OneRun
pub mod Counting
