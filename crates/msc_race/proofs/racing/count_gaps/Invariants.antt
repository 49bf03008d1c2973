use Rattle.std.proofs.Common.{◌≡◌, ℕ, ◌*◌, length, min}
use Rattle.msc_chart.specs.Lists.{pairs_to}
use Rattle.msc_race.specs.Gaps.{is_gap}
use Rattle.msc_race.proofs.racing.count_gaps.Given as goal

abbrev pub invariant-loop-w : goal.invariant-loop-w
invariant-loop-w l = (e : ℕ) → l.count ≡ length (pairs_to (is_gap l.row l.start) e (min (64 * l.w) l.end))
