-- what is promised
pub mod Plans
pub mod Drafting
pub mod Places
pub mod Importing
pub mod Drawings
pub mod Whole
pub mod Laws
pub mod Segments
pub mod ArrowEnds
pub mod Numbering
