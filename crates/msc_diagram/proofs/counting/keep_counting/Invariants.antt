use Rattle.std.proofs.Common.{◌≡◌, take}
use Rattle.std.specs.List.{filter}
use Rattle.msc_reason.specs.Counting.{counts}
use Rattle.msc_reason.specs.Marked.{cause_in}
use Rattle.msc_diagram.proofs.counting.keep_counting.Given as goal

-- the list has those of the races so far that count
abbrev pub invariant-loop-race : goal.invariant-loop-race
invariant-loop-race l = l.list.items ≡ filter (counts l.left (cause_in l.enforced)) (take l.race-index l.races)
