-- The sticks of a chart and the races that are left as people read them.
use Rattle.std.specs.Prelude.{ℕ, Bool, true, false, List, Option, None, Some, slice_get}
use Rattle.std.specs.List.{flat_map}
use Rattle.msc_chart.specs.Charts.{partner}
use Rattle.msc_chart.specs.Drawings.{Drawing}
use Rattle.msc_full.specs.Blocks.{texts_of}
use Rattle.msc_full.specs.Races.{left_text as left_race_text}
use Rattle.msc_full.specs.Sticks.{stick_text as stick_diagnostic}
use Rattle.msc_full.specs.declared.event.ShownEvent.{ShownEvent}
use Rattle.msc_full.specs.declared.event.ShownText.{ShownText}
use Rattle.msc_reason.specs.declared.cause.RaceKind.TheVariants.{Early}
use Rattle.msc_wording.specs.Blocked.{blocks_text}
use Rattle.msc_wording.specs.Runs.{run_rows}
use Rattle.msc_wording.specs.declared.run.SpokenStep.{SpokenStep}
use Rattle.msc_findings.specs.Findings.{step_in}
use Rattle.msc_findings.specs.Rounds.{once, step_at}
use Rattle.msc_findings.specs.declared.format.FullFormat.{FullFormat}
use Rattle.msc_findings.specs.declared.sticks.StickEvents.{StickEvents}

-- the events of the stick of these two inputs: they, and the outputs of their messages
abbrev pub stick_events : Drawing → Bool → ℕ → ℕ → StickEvents
stick_events d is_next e f = record {
  first = e;
  second = f;
  needed = partner d.events e;
  output = partner d.events f;
  is_next = is_next;
}

-- the diagnostic of a stick of these events, with a note on the stick that is ahead of it, or with the
-- rows of a run
abbrev pub stick_with : ShownText → StickEvents → Option (List ℕ) → Option (List (List ℕ)) → List ℕ
stick_with text stick behind run = stick_diagnostic text (record {
  first = stick.first;
  second = stick.second;
  needed = stick.needed;
  output = stick.output;
  is_next = stick.is_next;
  behind = behind;
  run = run;
})

-- the note that the instance of this event blocks earlier, at the line of the event
abbrev pub behind_note : ShownText → Option ShownEvent → Option (List ℕ)
behind_note text None = None
behind_note text (Some event) = Some (blocks_text (texts_of text.names.now) event.spoken.owner event.spoken.line)

-- The diagnostic of a stick of these events: with a note on the stick that is ahead of it, of which the
-- first event counts; or with a run, if none is ahead and one is shown. Events have these numbers in
-- the chart and these steps.
abbrev pub stick_by : ShownText → StickEvents → (ℕ → ℕ) → (ℕ → List SpokenStep) → Option (ℕ × ℕ) → Option (List ℕ) → List ℕ
stick_by text stick number step (Some ahead) run =
    stick_with text stick (behind_note text (slice_get text.events.now (number ahead.0))) None
stick_by text stick number step None (Some run) =
    stick_with text stick None (Some (run_rows (texts_of text.names.now) (flat_map step run)))
stick_by text stick number step None None = stick_with text stick None None

-- the diagnostic of a stick of a chart, with the one that is ahead of it, or with its run
abbrev pub stick_text : FullFormat → Drawing → ℕ × ℕ → Option (ℕ × ℕ) → Option (List ℕ) → List ℕ
stick_text x d p ahead run = stick_by x.text (stick_events d false p.0 p.1) (λ e. e) (step_in x.text) ahead run

-- that of a stick between two rounds of a chart; numbers are those of events of two rounds
abbrev pub round_stick_text : FullFormat → Drawing → ℕ × ℕ → Option (ℕ × ℕ) → Option (List ℕ) → List ℕ
round_stick_text x d p ahead run =
    stick_by x.text (stick_events d true (once d p.0) (once d p.1)) (once d) (step_at x.text d) ahead run

-- the diagnostic of a race that is left
abbrev pub left_text : FullFormat → ℕ × ℕ → List ℕ
left_text x p = left_race_text x.text (record {
  first = p.0;
  second = p.1;
  cause = record { kind = Early; needed = p.0; output = p.1; always = false };
  is_next = false;
  scenarios = None;
  run = None;
})
