use Rattle.std.proofs.Common.{[], drop}
use Rattle.msc_scanning.proofs.Folding.{SoFar}
use Rattle.msc_scanning.specs.Texts.{PutsNumber}
use Rattle.msc_scanning.proofs.texts.put_blocks.Given as goal

abbrev pub invariant-loop-number : goal.invariant-loop-number
invariant-loop-number g l =
    SoFar g.O.Write.contents (PutsNumber l.plan l.words l.file l.found.text) l.found.numbers (drop l.number-index l.found.numbers) [] l.outcomes.items l.initial.output l.output
