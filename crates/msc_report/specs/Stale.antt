-- Marks that accept no race, as they are told. This project's own formats.
use Rattle.std.specs.Prelude.{ℕ, List, ◌++◌, Option, codes}
use Rattle.std.specs.Fmt.{decimal}
use Rattle.std.specs.List.{flat_map}
use Rattle.msc_chart.specs.Charts.{line}
use Rattle.msc_chart.specs.Drawings.{Drawing}
use Rattle.msc_place.specs.EventPositions.{event_position_text as place_text, EventPositionsIn}
use Rattle.msc_report.specs.Styles.{event_position_text}
use Rattle.msc_report.specs.Texts.{text_line}
use Rattle.msc_report.specs.Verdicts.{event_text, instance_text}

-- which event has such a mark, on which line, and what it does
abbrev pub stale_words : Drawing → ℕ → List ℕ
stale_words d e =
    codes "stale " ++ (decimal e ++ (codes " on " ++ (instance_text d (line d.events e) ++ (codes ": " ++ event_text d e))))

-- its line, and that of its place, where places are told
abbrev pub stale_line : Option EventPositionsIn → Drawing → ℕ → List ℕ
stale_line event_positions d e = text_line (stale_words d e) ++ event_position_text event_positions e

-- those of all of them
abbrev pub stale_lines : Option EventPositionsIn → Drawing → List ℕ → List ℕ
stale_lines event_positions d events = flat_map (stale_line event_positions d) events

-- its line for editors
abbrev pub stale_warning : EventPositionsIn → Drawing → ℕ → List ℕ
stale_warning event_positions d e = place_text event_positions e ++ (codes ": warning: " ++ (stale_words d e ++ codes " [stale]\n"))

-- those of all of them
abbrev pub stale_warnings : EventPositionsIn → Drawing → List ℕ → List ℕ
stale_warnings event_positions d events = flat_map (stale_warning event_positions d) events
