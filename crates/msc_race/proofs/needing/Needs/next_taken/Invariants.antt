use Rattle.std.proofs.Common.{ℕ, ◌≤◌}
use Rattle.msc_race.specs.Choices.{wired_chart}
use Rattle.msc_race.specs.PastEvents.{IsTakenLeft}
use Rattle.msc_race.proofs.needing.Needs.next_taken.Given as goal

abbrev pub invariant-loop-y : goal.invariant-loop-y
invariant-loop-y l = (t : ℕ) → IsTakenLeft (wired_chart l.choice) l.choice.e l.left l.q t → l.y ≤ t
