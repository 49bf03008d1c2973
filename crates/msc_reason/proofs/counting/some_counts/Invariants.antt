use Rattle.std.proofs.Common.{◌≡◌, false, take}
use Rattle.std.specs.List.{list_any}
use Rattle.msc_reason.specs.Counting.{counts}
use Rattle.msc_reason.specs.Marked.{cause_in}
use Rattle.msc_reason.proofs.counting.some_counts.Given as goal

-- none of the races so far counts
abbrev pub invariant-loop-race : goal.invariant-loop-race
invariant-loop-race l = list_any (counts l.allowed (cause_in l.enforced)) (take l.race-index l.races) ≡ false
