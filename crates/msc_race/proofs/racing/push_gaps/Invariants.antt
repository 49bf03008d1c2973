use Rattle.std.proofs.Common.{◌≡◌, ◌*◌, ◌++◌, min}
use Rattle.msc_chart.specs.Lists.{pairs_to}
use Rattle.msc_race.specs.Gaps.{is_gap}
use Rattle.msc_race.proofs.racing.push_gaps.Given as goal

abbrev pub invariant-loop-k : goal.invariant-loop-k
invariant-loop-k l = l.list.items ≡ l.initial.list.items ++ pairs_to (is_gap l.row l.start) l.e (min (64 * l.k) l.end)
