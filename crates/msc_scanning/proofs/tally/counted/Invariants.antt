use Rattle.std.proofs.Common.{◌≡◌, drop}
use Rattle.msc_scanning.specs.Outcomes.{with_all}
use Rattle.msc_scanning.proofs.tally.counted.Given as goal

-- what is left to count makes the tally of all
abbrev pub invariant-loop-one : goal.invariant-loop-one
invariant-loop-one l = with_all (drop l.one-index l.others) l.tally ≡ with_all l.others l.initial.tally
