-- The beginning of a ready run, as the code holds it.
pub mod Marks
pub mod Fronts
pub mod Heads
pub mod Next
pub mod Barred
pub mod Toward
