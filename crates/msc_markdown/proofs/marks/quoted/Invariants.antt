use Rattle.std.proofs.Common.{◌≡◌, ◌+◌, drop}
use Rattle.msc_markdown.specs.Marks.{quoted}
use Rattle.msc_markdown.proofs.marks.quoted.Given as goal

abbrev pub invariant-loop-i : goal.invariant-loop-i
invariant-loop-i l = l.i + quoted l.left (drop l.i l.bytes) ≡ quoted l.count l.bytes
