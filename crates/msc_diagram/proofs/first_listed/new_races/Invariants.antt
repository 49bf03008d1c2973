use Rattle.std.proofs.Common.{take}
use Rattle.msc_diagram.specs.NewRaces.{AreNewSoFar}
use Rattle.msc_diagram.proofs.first_listed.new_races.Given as goal

-- the races of the scenarios so far are in the lists
abbrev pub invariant-loop-i : goal.invariant-loop-i
invariant-loop-i g l = AreNewSoFar (take l.i (g.S.Source.scenarios l.scenarios)) l.check l.reported l.lists.items
