use Rattle.std.proofs.Common.{map}
use Rattle.msc_scenarios.proofs.StepLemmas.{AreParted}
use Rattle.msc_scenarios.proofs.steps.branches_of.Given as goal

abbrev pub invariant-loop-i : goal.invariant-loop-i
invariant-loop-i l = AreParted l.inside (map (λ x. x.now) l.branches.items) l.start l.depth l.i
