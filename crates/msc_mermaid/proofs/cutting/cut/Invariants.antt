use Rattle.std.proofs.Common.{map}
use Rattle.msc_mermaid.proofs.CuttingLemmas.{AreCutUp}
use Rattle.msc_mermaid.proofs.cutting.cut.Given as goal

abbrev pub invariant-loop-i : goal.invariant-loop-i
invariant-loop-i l = AreCutUp l.bytes (map (λ x. x.now) l.pieces.items) l.start l.within l.i
