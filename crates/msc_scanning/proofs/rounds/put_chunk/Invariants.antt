use Rattle.std.proofs.Common.{drop}
use Rattle.msc_scanning.proofs.Folding.{SoFar}
use Rattle.msc_scanning.specs.Files.{PutsItem}
use Rattle.msc_scanning.proofs.rounds.put_chunk.Given as goal

abbrev pub invariant-loop-i : goal.invariant-loop-i
invariant-loop-i g l =
    SoFar g.O.Write.contents (PutsItem l.plan l.input) l.items (drop l.i l.items) l.initial.progress l.progress l.initial.output l.output
