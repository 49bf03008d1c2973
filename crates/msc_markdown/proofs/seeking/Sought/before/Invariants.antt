use Rattle.std.proofs.Common.{◌≡◌, ◌+◌, drop}
use Rattle.msc_markdown.specs.Seeking.{before}
use Rattle.msc_markdown.proofs.seeking.Sought.before.Given as goal

abbrev pub invariant-loop-i : goal.invariant-loop-i
invariant-loop-i l = l.i + before l.self (drop l.i l.bytes) ≡ before l.self l.bytes
