use Rattle.std.proofs.Common.{length, take}
use Rattle.std.specs.List.{All}
use Rattle.msc_report.specs.Spans.{AreShort}
use Rattle.msc_report.proofs.race_line.all_are_short.Given as goal

-- the parts of the texts so far are short
abbrev pub invariant-loop-span : goal.invariant-loop-span
invariant-loop-span l = All (λ s. AreShort (length l.bytes) s s) (take l.span-index l.spans)
