-- How answers speak of events beside their numbers. This project's own formats.
use Rattle.std.specs.Prelude.{ℕ, Bool, cond, List, [], ◌++◌, Option, None, Some, codes, length, option_map}
use Rattle.std.specs.Fmt.{decimal}
use Rattle.std.specs.List.{flat_map}
use Rattle.msc_chart.specs.Drawings.{Drawing}
use Rattle.msc_place.specs.EventPositions.{event_position_line, event_positions_line, EventPositionsIn}
use Rattle.msc_report.specs.Texts.{text_line}
use Rattle.msc_report.specs.Traces.{event_line}
use Rattle.msc_report.specs.Verdicts.{run_line}
use Rattle.msc_report.specs.declared.style.Style.{Style}

-- where the events of the text stand, where that is told
abbrev pub event_positions_in : Style → Option EventPositionsIn
event_positions_in style = option_map (λ s. s.now) style.event_positions

-- the line of the places of two events, behind so many blanks, where places are told
abbrev pub at_text : Option EventPositionsIn → List ℕ → ℕ → ℕ → List ℕ
at_text None blanks e f = []
at_text (Some event_positions) blanks e f = blanks ++ event_positions_line event_positions e f

-- the line of the place of an event, where places are told
abbrev pub event_position_text : Option EventPositionsIn → ℕ → List ℕ
event_position_text None e = []
event_position_text (Some event_positions) e = event_position_line event_positions e

-- a run in words: how many events it has, and each of them in their order
abbrev pub steps_text : Drawing → List ℕ → List ℕ
steps_text d run = codes "steps " ++ (text_line (decimal (length run)) ++ flat_map (event_line d) run)

-- a run in a style: in words, or by the numbers of its events
abbrev pub run_text : Bool → Drawing → List ℕ → List ℕ
run_text words d run = cond words (steps_text d run) (run_line (Some run))
