use Rattle.std.proofs.Common.{take}
use Rattle.msc_diagram.specs.Telling.{SeesCases}
use Rattle.msc_diagram.proofs.counting.see_cases.Given as goal

-- the races of the scenarios so far were seen
abbrev pub invariant-loop-i : goal.invariant-loop-i
invariant-loop-i g l = SeesCases (take l.i (g.S.Source.scenarios l.scenarios)) l.check l.tallies l.fn.answer l.answer
