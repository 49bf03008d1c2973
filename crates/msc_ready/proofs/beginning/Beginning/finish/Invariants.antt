use Rattle.std.proofs.Common.{◌≡◌, ℕ, true, [], length}
use Rattle.msc_chart.specs.Lists.{occurs, Steps}
use Rattle.msc_ready.specs.Held.{wiring_of, ready_in}
use Rattle.msc_ready.specs.Beginnings.{HoldsRun}
use Rattle.msc_ready.specs.Running.{GoesOnAs, IsBlockedPairNext}
use Rattle.msc_ready.proofs.Shared.{count_below, is_left}
use Rattle.msc_ready.proofs.Runs.Growing.{everything}
use Rattle.msc_ready.proofs.beginning.Beginning.finish.Given as goal

abbrev pub invariant-loop-x : goal.invariant-loop-x
invariant-loop-x l = record {
  held : HoldsRun l.ready l.self;
  longer : GoesOnAs l.initial.self.run.items l.self.run.items;
  witness : (t : ℕ) → occurs l.initial.self.run.items t ≡ true → Steps (IsBlockedPairNext (wiring_of l.ready) (ready_in l.ready) t) [] l.initial.self.run.items
      → Steps (IsBlockedPairNext (wiring_of l.ready) (ready_in l.ready) t) [] l.self.run.items;
}

abbrev pub decreases-loop-x : goal.decreases-loop-x
decreases-loop-x l = count_below (is_left everything l.self.run.items) (length l.ready.chart.events)
