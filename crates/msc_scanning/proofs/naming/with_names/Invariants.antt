use Rattle.std.proofs.Common.{length}
use Rattle.msc_scanning.proofs.Lines.{NamedSoFar}
use Rattle.msc_scanning.proofs.naming.with_names.Given as goal

-- the lines before the rest have the word
abbrev pub invariant-loop-at : goal.invariant-loop-at
invariant-loop-at l = NamedSoFar l.word l.lines l.rest l.page.bytes.items

abbrev pub decreases-loop-at : goal.decreases-loop-at
decreases-loop-at l = length l.rest
