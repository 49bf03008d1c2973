use Rattle.std.proofs.Common.{◌≤◌, length}
use Rattle.msc_chart.specs.Lists.{until}
use Rattle.msc_race.proofs.short.place_of.Given as goal

abbrev pub invariant-loop-k : goal.invariant-loop-k
invariant-loop-k l = l.k ≤ length (until l.events l.f)
