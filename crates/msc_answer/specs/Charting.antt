-- Scenarios of a diagram with their charts.
use Rattle.std.specs.Prelude.{ℕ, List}
use Rattle.std.specs.List.{All}
use Rattle.msc_chart.specs.Drawings.{chart_of}
use Rattle.msc_chart.specs.Faults.{IsFaultless}
use Rattle.msc_diagram.specs.declared.scenario.Scenario.{Scenario}
use Rattle.msc_import.specs.declared.drawings.Scenario.{Scenario as Drawn}
use Rattle.msc_place.specs.EventPositions.{event_positions_in}

-- a scenario with its chart, with the places of its events in a file of this name, and with those of
-- its parts in the text
abbrev pub with_chart : List ℕ → Drawn → Scenario
with_chart file s = record { choices = s.choices; chart = chart_of s.draft; event_positions = event_positions_in file s.places; spans = s.spans }

-- all of them are charts
abbrev pub AreCharts : List Drawn → Type 0
AreCharts all = All (λ s. IsFaultless s.draft) all
