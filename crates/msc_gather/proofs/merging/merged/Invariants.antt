use Rattle.std.proofs.Common.{map}
use Rattle.msc_chart.specs.Wirings.{size, wired_by}
use Rattle.msc_chart.proofs.Numbers.{count_below}
use Rattle.msc_gather.specs.Schedule.{is_logged}
use Rattle.msc_gather.specs.Merges.{IsMerging}
use Rattle.msc_chart.proofs.Left.{is_left}
use Rattle.msc_gather.proofs.merging.merged.Given as goal

abbrev pub invariant-loop-x : goal.invariant-loop-x
invariant-loop-x l =
    IsMerging (wired_by l.w) (map (λ v. v.items) l.logs) l.merge.past.items l.merge.heads.items
    l.merge.done.items

abbrev pub decreases-loop-x : goal.decreases-loop-x
decreases-loop-x l =
    count_below (is_left (is_logged (wired_by l.w) (map (λ v. v.items) l.logs)) l.merge.past.items)
    (size l.w)
