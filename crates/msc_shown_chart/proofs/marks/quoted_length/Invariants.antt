use Rattle.std.proofs.Common.{◌≡◌, ◌+◌, false, drop}
use Rattle.msc_shown_chart.specs.Marks.{quoted_from}
use Rattle.msc_shown_chart.proofs.marks.quoted_length.Given as goal

abbrev pub invariant-loop-i : goal.invariant-loop-i
invariant-loop-i l = quoted_from false l.bytes ≡ l.i + quoted_from l.closes (drop l.i l.bytes)
