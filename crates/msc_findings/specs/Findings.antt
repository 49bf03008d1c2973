-- The races of a chart as people read them.
use Rattle.std.specs.Prelude.{ℕ, Bool, List, [], ◌++◌, Option, None, Some, map, slice_get}
use Rattle.std.specs.List.{flat_map}
use Rattle.msc_chart.specs.Drawings.{Drawing}
use Rattle.msc_full.specs.Races.{race_text}
use Rattle.msc_full.specs.Rings.{never_text}
use Rattle.msc_full.specs.Steps.{chart_step}
use Rattle.msc_full.specs.declared.event.ShownText.{ShownText}
use Rattle.msc_judge.specs.declared.renderer.Finding.{Finding}
use Rattle.msc_judge.specs.declared.renderer.Totals.{Totals}
use Rattle.msc_reason.specs.declared.cause.Cause.{Cause}
use Rattle.msc_wording.specs.declared.run.SpokenStep.{SpokenStep}
use Rattle.msc_findings.specs.Closing.{closing_part}
use Rattle.msc_findings.specs.Formats.{marks_text}
use Rattle.msc_findings.specs.Runs.{rows_of_line, rows_text, step_of}
use Rattle.msc_findings.specs.declared.format.FullFormat.{FullFormat}

-- the diagnostic that no run keeps the drawing, by these steps, if there are some
abbrev pub never_part : FullFormat → Drawing → List (ℕ × ℕ) → List ℕ
never_part x d steps = never_text x.text (map (chart_step d) steps)

-- the diagnostic of a finding with this cause, with a note on the scenarios in which it is a race and
-- with the rows of a run, if these are given
abbrev pub cause_text : ShownText → Finding → Bool → Option (List ℕ) → Option (List ℕ) → Option Cause → List ℕ
cause_text text f is_next scenarios line None = []
cause_text text f is_next scenarios line (Some cause) = race_text text (record {
  first = f.first;
  second = f.second;
  cause = cause;
  is_next = is_next;
  scenarios = scenarios;
  run = rows_of_line line;
})

abbrev pub finding_with : ShownText → Finding → Bool → Option (List ℕ) → Option (List ℕ) → List ℕ
finding_with text f is_next scenarios line = cause_text text f is_next scenarios line f.cause

-- that of a finding of a chart
abbrev pub finding_text : ShownText → Bool → Finding → Option (List ℕ) → List ℕ
finding_text text is_next f line = finding_with text f is_next None line

-- the step of event e
abbrev pub step_in : ShownText → ℕ → List SpokenStep
step_in text e = step_of None (slice_get text.events.now e)

-- the rows of a run
abbrev pub run_rows_text : ShownText → List ℕ → List ℕ
run_rows_text text run = rows_text text (flat_map (step_in text) run)

abbrev pub run_text : FullFormat → List ℕ → List ℕ
run_text x run = run_rows_text x.text run

-- the diagnostics of these stale marks, and what closes the answer
abbrev pub end_text : FullFormat → Bool → List ℕ → Option Totals → List ℕ
end_text x can_happen stale totals = marks_text x stale ++ closing_part x can_happen totals
