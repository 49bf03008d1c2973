use Rattle.std.proofs.Common.{take}
use Rattle.msc_chart.specs.Wirings.{wired_by}
use Rattle.msc_gather.specs.Links.{HoldsTaken}
use Rattle.msc_gather.proofs.linking.TakenSoFar.of.Given as goal

abbrev pub invariant-loop-r : goal.invariant-loop-r
invariant-loop-r l =
    HoldsTaken (wired_by l.w) (take l.r-index l.events) l.taken.before.items l.taken.last.items
