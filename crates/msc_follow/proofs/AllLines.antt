-- The finishing run of a chart whose lines are all ready.
use Rattle.std.proofs.Common.{◌≡◌, ◌↔◌, ℕ, Bool, List, [], length, subst}
use Rattle.msc_chart.specs.declared.queue.Queues.{Queues}
use Rattle.msc_chart.specs.Drawings.{Drawing}
use Rattle.msc_chart.specs.Orders.{WiredChart, wired}
use Rattle.msc_chart.specs.Precedence.{all_ready}
use Rattle.msc_chart.specs.Runs.{IsWhole}
use Rattle.msc_ready.specs.Finishing.{IsFinishingRun, MayFinish}
use Rattle.msc_ready.specs.Held.{ReadyChart, ready_in, ready_of, wiring_of}
use Rattle.msc_ready.specs.Readiness.{ReadyRun}

-- what is known of a finishing run
pub record IsFinished (chart : WiredChart) (lines : ℕ → Bool) (events : List ℕ) : Type 0 where
  pub run : IsFinishingRun chart lines events
  pub ready : ReadyRun chart lines events
  pub all : (length events ≡ length chart.events) ↔ IsWhole chart events
  pub whole : IsWhole chart events ↔ MayFinish chart lines

-- a chart with no list of lines has all lines ready
pub all_lines : (queues : Queues) (d : Drawing) (r : ReadyChart) (events : List ℕ) → r.chart ≡ d → r.queues ≡ queues → r.lines ≡ []
    → IsFinished (wiring_of r) (ready_in r) events → IsFinished (wired queues d) all_ready events
all_lines queues d r events chart_is queues_is lines_is h =
    subst (λ (lines : List Bool). IsFinished (wired queues d) (ready_of lines) events) lines_is
    (subst (λ (e : Drawing). IsFinished (wired queues e) (ready_of r.lines) events) chart_is
    (subst (λ (q : Queues). IsFinished (wired q r.chart) (ready_of r.lines) events) queues_is h))
