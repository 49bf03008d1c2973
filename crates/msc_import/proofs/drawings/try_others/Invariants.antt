use Rattle.msc_import.proofs.WholeLemmas.{DrawnSoFar}
use Rattle.msc_import.proofs.drawings.try_others.Given as goal

-- each scenario so far has a draft
abbrev pub invariant-loop-i : goal.invariant-loop-i
invariant-loop-i l = DrawnSoFar l.manner l.name l.diagram l.lists l.i
