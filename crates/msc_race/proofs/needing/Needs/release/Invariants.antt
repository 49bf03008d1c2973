use Rattle.std.proofs.Common.{◌≡◌, ℕ, ◌<◌, ◌↔◌, ◌⊎◌, true}
use Rattle.bit_rows.specs.Rows.{has}
use Rattle.msc_race.specs.Choices.{wired_chart}
use Rattle.msc_race.specs.PastEvents.{HoldsNeeds, IsSentFor}
use Rattle.msc_race.proofs.needing.Needs.release.Given as goal

abbrev pub invariant-loop-y : goal.invariant-loop-y
invariant-loop-y l = record {
  holds : HoldsNeeds l.choice l.self;
  spans : l.self.spans ≡ l.initial.self.spans;
  nexts : l.self.nexts ≡ l.initial.self.nexts;
  ready : (z : ℕ) → (has l.self.ready z ≡ true)
      ↔ ((has l.initial.self.ready z ≡ true) ⊎ (IsSentFor (wired_chart l.choice) l.choice.e l.q z × (z < l.y)));
}
