use Rattle.std.proofs.Common.{◌≡◌, ◌+◌, drop}
use Rattle.msc_markdown.specs.Marks.{marks}
use Rattle.msc_markdown.proofs.marks.marks.Given as goal

abbrev pub invariant-loop-i : goal.invariant-loop-i
invariant-loop-i l = l.i + marks l.left (drop l.i l.bytes) ≡ marks 0 l.bytes
