use Rattle.std.proofs.Common.{map}
use Rattle.msc_chart.specs.Wirings.{wired_by}
use Rattle.msc_gather.specs.Merges.{IsBest}
use Rattle.msc_gather.proofs.merging.Merge.next.Given as goal

abbrev pub invariant-loop-i : goal.invariant-loop-i
invariant-loop-i l = IsBest (wired_by l.w) (map (λ v. v.items) l.logs) l.self.past.items l.i l.best
