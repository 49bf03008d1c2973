use Rattle.std.proofs.Common.{drop}
use Rattle.msc_scanning.proofs.Folding.{SoFar}
use Rattle.msc_scanning.specs.Files.{PutsItem}
use Rattle.msc_scanning.specs.Rounds.{AreChunks}
use Rattle.msc_scanning.proofs.rounds.put_chunks.Given as goal

abbrev pub invariant-loop-blocks : goal.invariant-loop-blocks
invariant-loop-blocks g l = record {
  so_far : SoFar g.O.Write.contents (PutsItem l.plan l.input) l.items l.rest l.initial.progress l.progress l.initial.output l.output;
  chunks : AreChunks l.plan l.input l.rest (drop l.blocks-index l.made);
}
