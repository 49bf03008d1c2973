-- The list of a chart's events. This project's own format.
use Rattle.std.specs.Prelude.{ℕ, zero, suc, List, [], ◌++◌, Option, codes, length}
use Rattle.std.specs.Fmt.{decimal}
use Rattle.msc_chart.specs.Drawings.{Drawing}
use Rattle.msc_place.specs.EventPositions.{EventPositionsIn}
use Rattle.msc_report.specs.Styles.{event_position_text}
use Rattle.msc_report.specs.Texts.{text_line}
use Rattle.msc_report.specs.Traces.{event_line}
use Rattle.msc_report.specs.Verdicts.{name_line}

-- an event, and its place where places are told
abbrev pub listed_event : Drawing → Option EventPositionsIn → ℕ → List ℕ
listed_event d event_positions e = event_line d e ++ event_position_text event_positions e

-- the events below e, in their order
abbrev pub listed_below : Drawing → Option EventPositionsIn → ℕ → List ℕ
listed_below d event_positions zero = []
listed_below d event_positions (suc e) = listed_below d event_positions e ++ listed_event d event_positions e

-- the name of a chart, how many events it has, and each of them in their order
abbrev pub listed_text : Drawing → Option EventPositionsIn → List ℕ
listed_text d event_positions =
    name_line d ++ (codes "events " ++ (text_line (decimal (length d.events)) ++ listed_below d event_positions (length d.events)))
