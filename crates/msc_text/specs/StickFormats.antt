-- What the formats of an answer on ready instances print of sticks and of races that are left.
use Rattle.std.specs.Prelude.{ℕ, Bool, true, List, [], ◌++◌, Option, None, Some}
use Rattle.msc_chart.specs.Drawings.{Drawing}
use Rattle.msc_findings.specs.Closing.{readiness_text}
use Rattle.msc_findings.specs.Sticks.{left_text, round_stick_text, stick_text}
use Rattle.msc_report.specs.ReadyFormats.{left_comes_last, ready_again_behind, ready_again_count, ready_again_run, ready_again_stick, ready_behind, ready_left, ready_left_count, ready_run, ready_stick, runs_shown}
use Rattle.msc_text.specs.declared.stick_format.StickFormat.{StickFormat}
use Rattle.msc_text.specs.declared.stick_format.StickFormat.TheVariants.{Plain, Full}
use Rattle.msc_wording.specs.declared.readying.SpokenReadiness.{SpokenReadiness}

-- for how many first sticks a run is shown, if so many are asked for
abbrev pub runs_in : StickFormat → ℕ → ℕ
runs_in (Plain format) show = runs_shown format show
runs_in (Full full) show = show

-- whether the races that are left come behind the sticks between two rounds, and not above them
abbrev pub comes_left_last : StickFormat → Bool
comes_left_last (Plain format) = left_comes_last format
comes_left_last (Full full) = true

-- what shows a stick: which one is ahead of it, or, if none is, a run, if one is shown
abbrev pub showing_text : (ℕ × ℕ → List ℕ) → (List ℕ → List ℕ) → Option (ℕ × ℕ) → Option (List ℕ) → List ℕ
showing_text behind run_lines (Some p) run = behind p
showing_text behind run_lines None (Some run) = run_lines run
showing_text behind run_lines None None = []

-- a stick of a chart, with the one that is ahead of it, or with its run
abbrev pub once_texts : StickFormat → Drawing → ℕ × ℕ → Option (ℕ × ℕ) → Option (List ℕ) → List ℕ
once_texts (Plain format) d p ahead run =
    ready_stick format d p ++ showing_text (ready_behind format) (ready_run format d) ahead run
once_texts (Full full) d p ahead run = stick_text full d p ahead run

-- a stick of two rounds of a chart
abbrev pub again_texts : StickFormat → Drawing → ℕ × ℕ → Option (ℕ × ℕ) → Option (List ℕ) → List ℕ
again_texts (Plain format) d p ahead run =
    ready_again_stick format d p ++ showing_text (ready_again_behind format d) (ready_again_run format d) ahead run
again_texts (Full full) d p ahead run = round_stick_text full d p ahead run

-- the number of sticks between two rounds
abbrev pub again_count_in : StickFormat → ℕ → List ℕ
again_count_in (Plain format) count = ready_again_count format count
again_count_in (Full full) count = []

-- the number of races that are left
abbrev pub left_count_in : StickFormat → ℕ → List ℕ
left_count_in (Plain format) count = ready_left_count format count
left_count_in (Full full) count = []

-- a race that is left
abbrev pub left_race_in : StickFormat → Drawing → ℕ × ℕ → List ℕ
left_race_in (Plain format) d p = ready_left format d p
left_race_in (Full full) d p = left_text full p

-- what closes the answer
abbrev pub closing_in : StickFormat → SpokenReadiness → List ℕ
closing_in (Plain format) readiness = []
closing_in (Full full) readiness = readiness_text full readiness
