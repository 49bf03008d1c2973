-- the characters of a text
pub mod Replacing
pub mod Fronts
pub mod Entities
pub mod Reading
-- what people see of it
pub mod Showing
pub mod Markup
pub mod Speaking
pub mod Cutting
-- what is promised
pub mod Laws
