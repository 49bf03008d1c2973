-- Instances that are ready: they take a message only when all that is drawn before has happened.
-- Their runs, and the order that their runs keep. All of it is this project's own.
use Rattle.std.specs.Prelude.{ℕ, Bool, true, List, [], IsTrue}
use Rattle.msc_chart.specs.Lists.{occurs, until, Steps}
use Rattle.msc_chart.specs.Charts.{line, is_input, before}
use Rattle.msc_chart.specs.Orders.{WiredChart}
use Rattle.msc_chart.specs.Precedence.{Precedes}
use Rattle.msc_chart.specs.Runs.{MayCome, IsWhole}

-- After these events e may come next while these lines are ready: it may come, and an input of a
-- ready line has all that is drawn before it behind it.
pub record MayComeReady (chart : WiredChart) (ready : ℕ → Bool) (past : List ℕ) (e : ℕ) : Type 0 where
  pub may : MayCome chart past e
  pub awaited : IsTrue (is_input chart.events e) → IsTrue (ready (line chart.events e))
      → (x : ℕ) → IsTrue (before chart.events x e) → IsTrue (occurs past x)

-- a ready run: each event may come so after those before it
abbrev pub ReadyRun : WiredChart → (ℕ → Bool) → List ℕ → Type 0
ReadyRun chart ready events = Steps (MayComeReady chart ready) [] events

-- each event of a ready line has all that is drawn before it earlier
abbrev pub KeepsReadyLines : WiredChart → (ℕ → Bool) → List ℕ → Type 0
KeepsReadyLines chart ready events =
    (x y : ℕ) → IsTrue (before chart.events x y) → IsTrue (ready (line chart.events y))
    → IsTrue (occurs events y) → IsTrue (occurs (until events y) x)

-- after a ready run the system has stuck: the run is not whole, and no event may come next
pub record HasStuck (chart : WiredChart) (ready : ℕ → Bool) (events : List ℕ) : Type 0 where
  pub run : ReadyRun chart ready events
  pub unfinished : IsWhole chart events → ⊥
  pub none : (e : ℕ) → MayComeReady chart ready events e → ⊥

-- the ready order: what precedes what while these lines are ready, where queues keep their order
abbrev pub ReadyOrder : WiredChart → (ℕ → Bool) → ℕ → ℕ → Type 0
ReadyOrder chart ready = Precedes chart ready true
