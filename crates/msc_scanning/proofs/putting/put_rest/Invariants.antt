use Rattle.std.proofs.Common.{drop}
use Rattle.msc_scanning.proofs.Folding.{SoFar}
use Rattle.msc_scanning.specs.Putting.{Sees}
use Rattle.msc_scanning.proofs.putting.put_rest.Given as goal

abbrev pub invariant-loop-one : goal.invariant-loop-one
invariant-loop-one g l =
    SoFar g.O.Write.contents (Sees l.plan l.target) l.queues (drop l.one-index l.queues) l.initial.seen l.seen l.initial.output l.output
