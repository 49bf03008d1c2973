use Rattle.std.proofs.Common.{map}
use Rattle.msc_chart.specs.Wirings.{wired_by}
use Rattle.msc_gather.proofs.MergeLemmas.{least_less}
use Rattle.msc_gather.proofs.merging.merged.Goals as goal

pub loop-x-smaller : goal.loop-x-smaller
loop-x-smaller c = least_less (wired_by c.args.w.now) (map (λ v. v.items) c.args.logs.now) _ _
    c.in-Some.x c.in-Some.ensures.some c.in_ok-follow.ensures.past
