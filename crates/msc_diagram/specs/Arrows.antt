-- The statements of a diagram that draw the events of a scenario.
use Rattle.std.specs.Prelude.{ℕ, List, length, map, unwrap_or}
use Rattle.std.specs.List.{position}
use Rattle.msc_import.specs.declared.spanning.EventSpans.{EventSpans}
use Rattle.msc_import_marks.specs.Met.{is_whole}
use Rattle.msc_mermaid.specs.declared.statement.Placed.{Placed}

-- the number of the statement that draws an event, or of all statements if none does
abbrev pub arrow_of : List Placed → EventSpans → ℕ
arrow_of statements event = unwrap_or (position (is_whole event.statement) statements) (length statements)

abbrev pub arrows_of : List Placed → List EventSpans → List ℕ
arrows_of statements events = map (arrow_of statements) events

-- the rounds of the loops around the arrows of events
abbrev pub rounds_of : List EventSpans → List (List ℕ)
rounds_of events = map (λ event. event.rounds) events
