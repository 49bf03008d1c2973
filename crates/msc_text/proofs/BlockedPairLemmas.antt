-- The rows of blocked pairs.
use Rattle.std.proofs.Common.{◌≡◌, ℕ, ◌<◌, Bool, true, false, List, [], ◌∷◌, ◌++◌, Option, None, Some, if◌then◌else◌, length, sym, subst}
use Rattle.std.specs.Prelude.{All, IsTrue}
use Rattle.std.proofs.lemmas.List.Elements.{All-push}
use Rattle.msc_chart.specs.Charts.{is_input}
use Rattle.msc_chart.specs.Drawings.{Drawing}
use Rattle.msc_chart.proofs.Drawn.{before_parts}
use Rattle.msc_chart.proofs.KindTests.{input_below}
use Rattle.msc_race.proofs.Runs.RunEvents.{run_events}
use Rattle.msc_ready.specs.Held.{ready_in, wiring_of, ReadyChart}
use Rattle.msc_ready.specs.Laws.{ReadyRunsKeepReadyLines}
use Rattle.msc_ready.specs.Running.{IsBlockedPairRun}
use Rattle.msc_ready.specs.Views.{IsAheadOf}
use Rattle.msc_reason.specs.Named.{AreEventsOf}
use Rattle.msc_text.specs.Readied.{CanAppendStick, CanPrintStick}

-- a run that shows a blocked pair is of the chart's events
pub shown_events : (r : ReadyChart) → ReadyRunsKeepReadyLines → (e f : ℕ) (run : List ℕ) → IsBlockedPairRun (wiring_of r) (ready_in r) e f run
    → AreEventsOf r.chart run
shown_events r lines e f run is = run_events (wiring_of r) run ((lines r.queues r.chart (ready_in r) run).0 is.stuck.run).0

-- a list of which each element has a property, after a push that may have failed
pub pushed : {X : Type 0} (P : X → Type 0) (came : Bool) (old new : List X) (one : X) → new ≡ (if came then old ++ one ∷ [] else old)
    → All P old → P one → All P new
pushed P true old new one same all own = subst (All P) (sym same) (All-push P old one all own)
pushed P false old new one same all own = subst (All P) (sym same) all

module _ (r : ReadyChart) (d : Drawing) (ahead : List (Option (ℕ × ℕ))) (blocked_pair : ℕ × ℕ) (can : CanPrintStick r d ahead blocked_pair) where
  -- the second event of a blocked pair is one of the chart's
  pub second_below : blocked_pair.1 < length r.chart.events
  second_below = (before_parts r.chart.events blocked_pair.0 blocked_pair.1 can.blocked_pair.drawn).1

  -- a blocked pair can be printed with a run
  pub with_run : (run : List ℕ) → AreEventsOf r.chart run → CanAppendStick d blocked_pair None (Some run)
  with_run run events = record {
    first = subst (λ (x : Drawing). IsTrue (is_input x.events blocked_pair.0)) can.same can.blocked_pair.inputs.0;
    second = subst (λ (x : Drawing). IsTrue (is_input x.events blocked_pair.1)) can.same can.blocked_pair.inputs.1;
    ahead_known = tt;
    run_known = subst (λ (x : Drawing). AreEventsOf x run) can.same events;
  }

  -- and with the blocked pair that is ahead of it
  pub with_ahead : (p : ℕ × ℕ) → IsAheadOf r blocked_pair.1 (Some p) → CanAppendStick d blocked_pair (Some p) None
  with_ahead p least = record {
    first = subst (λ (x : Drawing). IsTrue (is_input x.events blocked_pair.0)) can.same can.blocked_pair.inputs.0;
    second = subst (λ (x : Drawing). IsTrue (is_input x.events blocked_pair.1)) can.same can.blocked_pair.inputs.1;
    ahead_known = subst (λ (x : Drawing). (p.0 < length x.events) × (p.1 < length x.events)) can.same
        (input_below r.chart.events p.0 least.itself.0.inputs.0, input_below r.chart.events p.1 least.itself.0.inputs.1);
    run_known = tt;
  }
