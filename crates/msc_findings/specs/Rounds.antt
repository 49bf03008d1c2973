-- The races between two rounds of a chart as people read them. Events of two rounds are named by
-- those of the chart.
use Rattle.std.specs.Prelude.{ℕ, ◌+◌, List, Some, slice_get}
use Rattle.std.specs.List.{flat_map}
use Rattle.std.specs.Option.{option_map}
use Rattle.msc_chart.specs.Drawings.{Drawing}
use Rattle.msc_chart.specs.Rounds.{event_of, round_of}
use Rattle.msc_full.specs.declared.event.ShownText.{ShownText}
use Rattle.msc_judge.specs.declared.renderer.Finding.{Finding}
use Rattle.msc_reason.specs.declared.cause.Cause.{Cause}
use Rattle.msc_wording.specs.declared.run.SpokenStep.{SpokenStep}
use Rattle.msc_findings.specs.Runs.{rows_text, step_of}
use Rattle.msc_findings.specs.declared.format.FullFormat.{FullFormat}

-- the event of the chart that event k of two rounds is
abbrev pub once : Drawing → ℕ → ℕ
once d k = event_of 2 d.events k

-- a cause by the events of the chart
abbrev pub cause_once : Drawing → Cause → Cause
cause_once d cause = record { kind = cause.kind; always = cause.always; needed = once d cause.needed; output = once d cause.output }

-- a finding by the events of the chart
abbrev pub round_finding : Drawing → Finding → Finding
round_finding d f = record { number = f.number; first = once d f.first; second = once d f.second; cause = option_map (cause_once d) f.cause }

-- the step of event k of two rounds, with its round, from 1
abbrev pub step_at : ShownText → Drawing → ℕ → List SpokenStep
step_at text d k = step_of (Some (round_of 2 d.events k + 1)) (slice_get text.events.now (once d k))

-- the rows of a run of two rounds
abbrev pub round_run : FullFormat → Drawing → List ℕ → List ℕ
round_run x d run = rows_text x.text (flat_map (step_at x.text d) run)
