-- what is promised
pub mod Tasks
pub mod Importing
pub mod Charted
pub mod Sited
pub mod Naming
pub mod Readied
pub mod Formats
pub mod Marked
pub mod ArrowMarks
pub mod Rounds
pub mod Drawing
pub mod Ending
pub mod Refused
pub mod RefusedWords
pub mod Charting
pub mod Spans
pub mod Own
pub mod Linked
pub mod Drafted
pub mod Scenarios
pub mod ShownDiagrams
pub mod Surveys
pub mod Reported
pub mod Answering
pub mod Verdicts
-- what the code keeps
pub mod Extending
