-- what is promised
pub mod Parts
pub mod Telling
pub mod Figures
pub mod Articles
pub mod Front
pub mod Reports
pub mod Findings
pub mod Paragraphs
pub mod DiagramReports
pub mod Laws
pub mod Plain
-- what the code keeps
pub mod Progress
