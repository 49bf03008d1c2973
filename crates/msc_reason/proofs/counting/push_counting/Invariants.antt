use Rattle.std.proofs.Common.{◌≡◌, ◌++◌, take}
use Rattle.std.specs.List.{filter}
use Rattle.msc_reason.specs.Counting.{counts}
use Rattle.msc_reason.specs.Marked.{cause_in}
use Rattle.msc_reason.proofs.counting.push_counting.Given as goal

-- those of the races so far that count stand behind the list
abbrev pub invariant-loop-race : goal.invariant-loop-race
invariant-loop-race l = l.list.items ≡ l.fn.list.items ++ filter (counts l.allowed (cause_in l.enforced)) (take l.race-index l.races)
