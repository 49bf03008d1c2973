-- What is kept while a witness is made.
use Rattle.std.specs.Prelude.{◌≡◌, ℕ, ◌<◌, false, ◌↔◌, List, [], IsTrue}
use Rattle.msc_chart.specs.Lists.{occurs, Steps}
use Rattle.msc_chart.specs.Witness.{IsWitnessNext}
use Rattle.msc_race.specs.declared.choosing.Choice.{Choice}
use Rattle.msc_race.specs.declared.beginning.Beginning.{Beginning}
use Rattle.bit_rows.specs.Rows.{has}
use Rattle.msc_race.specs.Choices.{wired_chart, event_count, IsChoice}
use Rattle.msc_race.specs.Remainders.{AreRows, AreTold, HasFirstWords}
use Rattle.msc_race.specs.Fronts.{HoldsLines}
use Rattle.msc_race.specs.QueuedRuns.{HoldsQueues}

-- two rows have a number in common
abbrev pub HaveCommon : List ℕ → List ℕ → Type 0
HaveCommon one other = (y : ℕ) × IsTrue (has one y) × IsTrue (has other y)

-- the row holds the events with a property that have not occurred
abbrev pub HoldsLeft : List ℕ → (ℕ → Type 0) → List ℕ → Type 0
HoldsLeft row P past = (y : ℕ) → IsTrue (has row y) ↔ (P y × (occurs past y ≡ false))

-- the events so far
abbrev pub run_of : Beginning → List ℕ
run_of f = f.queued.run.items

-- the beginning of a witness, and what is known of the events that it has not got
pub record IsBeginning (c : Choice) (f : Beginning) : Type 0 where
  pub steps : Steps (IsWitnessNext (wired_chart c) c.e) [] (run_of f)
  pub lines : HoldsLines c.wiring.chart.now f.lines
  pub queues : HoldsQueues (wired_chart c) (run_of f) f.queued
  pub rows : AreRows (event_count c) f.remaining
  pub told : AreTold c f.remaining
  pub first : HasFirstWords f.remaining f.lines.left.items
  pub left : HoldsLeft f.lines.left.items (λ y. y < event_count c) (run_of f)

-- the beginning of the witness of the choice's event
pub record IsWitnessSoFar (c : Choice) (f : Beginning) : Type 0 where
  pub settled : IsChoice c
  pub kept : IsBeginning c f
