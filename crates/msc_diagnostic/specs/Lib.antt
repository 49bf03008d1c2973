-- plain data
pub mod Plain
-- a text
pub mod Lines
pub mod Columns
-- parts of it with marks
pub mod Marks
pub mod Windows
-- what is printed
pub mod Rows
pub mod Blocks
-- what is promised
pub mod ShownTexts
pub mod Laws
