use Rattle.std.proofs.Common.{◌≡◌}
use Rattle.std.specs.List.{filter, range_with_len}
use Rattle.msc_scenario_marks.specs.Idle.{may_be_idle}
use Rattle.msc_scenario_marks.proofs.idle.idle_marks.Given as goal

-- the list has those of the marks so far
abbrev pub invariant-loop-k : goal.invariant-loop-k
invariant-loop-k l = l.idle.items ≡ filter (may_be_idle l.accepted) (range_with_len 0 l.k)
