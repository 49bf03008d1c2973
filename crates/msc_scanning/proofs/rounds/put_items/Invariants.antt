use Rattle.std.proofs.Common.{length}
use Rattle.msc_scanning.proofs.Folding.{SoFar}
use Rattle.msc_scanning.specs.Files.{PutsItem}
use Rattle.msc_scanning.specs.Progress.{none}
use Rattle.msc_scanning.proofs.rounds.put_items.Given as goal

abbrev pub invariant-loop-rest : goal.invariant-loop-rest
invariant-loop-rest g l =
    SoFar g.O.Write.contents (PutsItem l.plan l.input) l.items l.rest none l.progress l.initial.output l.output

abbrev pub decreases-loop-rest : goal.decreases-loop-rest
decreases-loop-rest g l = length l.rest
