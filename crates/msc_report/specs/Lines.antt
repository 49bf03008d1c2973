-- The lines that races are told in, beside those of verdicts. This project's own formats.
use Rattle.std.specs.Prelude.{ℕ, Bool, cond, List, [], ◌++◌, Option, None, Some, codes}
use Rattle.std.specs.Fmt.{decimal}
use Rattle.msc_chart.specs.Drawings.{Drawing}
use Rattle.msc_reason.specs.Causes.{kind_word}
use Rattle.msc_reason.specs.declared.cause.Cause.{Cause}
use Rattle.msc_judge.specs.declared.renderer.Finding.{Finding}
use Rattle.msc_judge.specs.declared.renderer.Heading.{Heading}
use Rattle.msc_place.specs.EventPositions.{EventPositionsIn}
use Rattle.msc_report.specs.Styles.{at_text}
use Rattle.msc_report.specs.Texts.{text_line}
use Rattle.msc_report.specs.Heads.{head_text}
use Rattle.msc_report.specs.Verdicts.{event_at, race_text}

-- how many races do not count, where kinds are left out
abbrev pub left_out_line : Option ℕ → List ℕ
left_out_line None = []
left_out_line (Some count) = codes "allowed " ++ text_line (decimal count)

-- how many races are accepted, where marks are asked
abbrev pub accepted_line : Option ℕ → List ℕ
accepted_line None = []
accepted_line (Some count) = codes "accepted " ++ text_line (decimal count)

-- how many races are closest, where that is asked for
abbrev pub closest_line : Option ℕ → List ℕ
closest_line None = []
closest_line (Some count) = codes "closest " ++ text_line (decimal count)

-- what is written before the races
abbrev pub heading_text : Drawing → Heading → List ℕ
heading_text d h =
    head_text d h.queues h.races ++ (left_out_line h.left_out ++ (accepted_line h.accepted ++ closest_line h.closest))

-- the word behind the kind of a race that is always reversed
abbrev pub always_text : Bool → List ℕ
always_text always = cond always (codes " always") []

-- the kind of a race
abbrev pub kind_line : Cause → List ℕ
kind_line cause = codes "kind " ++ (kind_word cause.kind ++ text_line (always_text cause.always))

-- what two events do on their lines, to the end of a line
abbrev pub both_at : Drawing → ℕ → ℕ → List ℕ
both_at d e f = event_at d e ++ (codes "; " ++ text_line (event_at d f))

-- a line that names two events: a word, their numbers, and what both of them do
abbrev pub pair_line : List ℕ → Drawing → ℕ → ℕ → List ℕ
pair_line word d e f =
    word ++ (codes " " ++ (decimal e ++ (codes " " ++ (decimal f ++ (codes ": " ++ both_at d e f)))))

-- such a line behind blanks, and the places of both events behind the same, where places are told
abbrev pub pair_text : Option EventPositionsIn → List ℕ → List ℕ → Drawing → ℕ → ℕ → List ℕ
pair_text event_positions blanks word d e f = blanks ++ (pair_line word d e f ++ at_text event_positions blanks e f)

-- why a pair is a race: its kind, and the pair that it lacks
abbrev pub why_text : Option EventPositionsIn → Drawing → Cause → List ℕ
why_text event_positions d cause = kind_line cause ++ pair_text event_positions [] (codes "needs") d cause.needed cause.output

-- the same, where it is told
abbrev pub cause_text : Option EventPositionsIn → Drawing → Option Cause → List ℕ
cause_text event_positions d None = []
cause_text event_positions d (Some cause) = why_text event_positions d cause

-- what was made of a run, where it is shown
abbrev pub shown_line : Option (List ℕ) → List ℕ
shown_line None = []
shown_line (Some line) = line

-- a race with what is told of it: its places, why it is one, and what was made of the run that
-- shows it
abbrev pub finding_text : Option EventPositionsIn → Drawing → Finding → Option (List ℕ) → List ℕ
finding_text event_positions d f line =
    race_text d f.first f.second None
    ++ (at_text event_positions [] f.first f.second ++ (cause_text event_positions d f.cause ++ shown_line line))
