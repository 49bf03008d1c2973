use Rattle.std.proofs.Common.{ℕ, ◌<◌}
use Rattle.msc_chart.specs.Wirings.{wired_by}
use Rattle.msc_gather.specs.Marks.{HasOutput}
use Rattle.msc_gather.proofs.marking.have_outputs.Given as goal

abbrev pub invariant-loop-r : goal.invariant-loop-r
invariant-loop-r l = (r : ℕ) → r < l.r → HasOutput (wired_by l.w) l.marks r
