-- The texts of two rounds of a chart. This project's own formats. The chart is that of one round,
-- and numbers are those of the events of two: its text, its line and its place are those in the
-- chart.
use Rattle.std.specs.Prelude.{ℕ, ◌+◌, Bool, cond, List, [], ◌++◌, Option, None, Some, codes, length}
use Rattle.std.specs.Fmt.{decimal}
use Rattle.std.specs.List.{flat_map}
use Rattle.msc_chart.specs.Charts.{partner}
use Rattle.msc_chart.specs.Drawings.{Drawing}
use Rattle.msc_chart.specs.Rounds.{event_of, number_of, round_of}
use Rattle.msc_judge.specs.declared.renderer.Finding.{Finding}
use Rattle.msc_place.specs.EventPositions.{EventPositionsIn}
use Rattle.msc_reason.specs.declared.cause.Cause.{Cause}
use Rattle.msc_report.specs.Editors.{again_lines}
use Rattle.msc_report.specs.Lines.{both_at, kind_line, shown_line}
use Rattle.msc_report.specs.BlockedPairs.{told_pair, waits_text}
use Rattle.msc_report.specs.Styles.{at_text, event_positions_in}
use Rattle.msc_report.specs.Texts.{text_line}
use Rattle.msc_report.specs.Verdicts.{event_at}
use Rattle.msc_report.specs.declared.editor.PairKind.TheVariants.{Race}
use Rattle.msc_report.specs.declared.style.Style.{Style}

-- the event of the chart that event k of two rounds is
abbrev pub once : Drawing → ℕ → ℕ
once d k = event_of 2 d.events k

-- an event of two rounds: its number in the chart, and its round, from 1
abbrev pub round_name : Drawing → ℕ → List ℕ
round_name d k = decimal (once d k) ++ (codes "." ++ decimal (round_of 2 d.events k + 1))

-- the same after a space
abbrev pub spaced_name : Drawing → ℕ → List ℕ
spaced_name d k = codes " " ++ round_name d k

-- the events of a run
abbrev pub round_run : Drawing → List ℕ → List ℕ
round_run d run = codes "run" ++ text_line (flat_map (spaced_name d) run)

-- an event of a run in words: the name of its instance, and what it does
abbrev pub round_line : Drawing → ℕ → List ℕ
round_line d k = round_name d k ++ (codes " " ++ text_line (event_at d (once d k)))

-- a run in words: how many events it has, and each of them in their order
abbrev pub round_steps : Drawing → List ℕ → List ℕ
round_steps d run = codes "steps " ++ (text_line (decimal (length run)) ++ flat_map (round_line d) run)

-- a run in a style: in words, or by the names of its events
abbrev pub round_run_text : Bool → Drawing → List ℕ → List ℕ
round_run_text words d run = cond words (round_steps d run) (round_run d run)

-- how many pairs of an event of one round and one of the next are told
abbrev pub again_count : ℕ → List ℕ
again_count count = codes "again " ++ text_line (decimal count)

-- such a pair, two events of one line, and where they stand
abbrev pub again_text : Option EventPositionsIn → Drawing → ℕ → ℕ → List ℕ
again_text event_positions d k l = told_pair event_positions (codes "again") d (once d k) (once d l)

-- what two events of two rounds do on their lines, to the end of a line, and where they stand
abbrev pub both_told : Option EventPositionsIn → Drawing → ℕ → ℕ → List ℕ
both_told event_positions d k l = both_at d (once d k) (once d l) ++ at_text event_positions [] (once d k) (once d l)

-- two events of two rounds, of which the first would have to be before the other
abbrev pub again_needs : Option EventPositionsIn → Drawing → ℕ → ℕ → List ℕ
again_needs event_positions d k l =
    codes "needs" ++ (spaced_name d k ++ (spaced_name d l ++ (codes ": " ++ both_told event_positions d k l)))

-- why a pair is a race, where that is told: its kind, and the pair that it lacks
abbrev pub round_cause : Option EventPositionsIn → Drawing → Option Cause → List ℕ
round_cause event_positions d None = []
round_cause event_positions d (Some cause) = kind_line cause ++ again_needs event_positions d cause.needed cause.output

-- a race between two rounds with what is told of it, but for the run that shows it
abbrev pub round_bare : Option EventPositionsIn → Drawing → Finding → List ℕ
round_bare event_positions d f = again_text event_positions d f.first f.second ++ round_cause event_positions d f.cause

-- and what was made of that run, where it is shown
abbrev pub round_finding : Option EventPositionsIn → Drawing → Finding → Option (List ℕ) → List ℕ
round_finding event_positions d f line = round_bare event_positions d f ++ shown_line line

-- its lines for editors
abbrev pub round_warning : EventPositionsIn → Drawing → Finding → List ℕ
round_warning event_positions d f = again_lines event_positions d (once d f.first) (once d f.second) (Race f.cause)

-- the output of an input, in its round
abbrev pub output_in : Drawing → ℕ → ℕ
output_in d k = number_of 2 d.events (partner d.events (once d k)) (round_of 2 d.events k)

-- a stick between two rounds in a style, without what shows it
abbrev pub again_stick : Style → Drawing → ℕ → ℕ → List ℕ
again_stick style d k l =
    again_text (event_positions_in style) d k l
    ++ (again_needs (event_positions_in style) d (output_in d k) (output_in d l)
    ++ waits_text style.words d (once d k) (once d l))

-- that a stick of two rounds is not first: which one is ahead of it
abbrev pub again_behind : Drawing → ℕ × ℕ → List ℕ
again_behind d p = codes "behind" ++ (spaced_name d p.0 ++ text_line (spaced_name d p.1))
