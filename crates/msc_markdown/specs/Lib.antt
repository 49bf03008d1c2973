-- what is promised
pub mod Blanks
pub mod Marks
pub mod Markup
pub mod Seeking
pub mod Closings
pub mod Arounds
pub mod Markdowns
pub mod Laws
