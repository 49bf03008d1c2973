use Rattle.std.proofs.Common.{map}
use Rattle.msc_mermaid.proofs.LineLemmas.{AreCut}
use Rattle.msc_mermaid.proofs.lines.lines_behind.Given as goal

abbrev pub invariant-loop-i : goal.invariant-loop-i
invariant-loop-i l = AreCut l.text (map (λ x. x.now) l.lines.items) l.start l.cr l.i
