pub mod BareLines
pub mod Answered
mod Drawings
pub mod Endings
mod Extended
mod LineEvents
pub mod TextAnswers
pub mod Instances
pub mod LineNames
pub mod Linking
pub mod OwnLemmas
pub mod FirstReadings
pub mod ChoiceNumbers
pub mod ImportPages
pub mod SurveyLemmas
pub mod FirstCharts
pub mod AllSurveyed
pub mod Witness
pub mod ReportLemmas
pub mod Yielded
