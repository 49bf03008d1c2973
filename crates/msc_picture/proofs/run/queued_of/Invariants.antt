use Rattle.msc_chart.specs.Orders.{queue_bound}
use Rattle.msc_chart.specs.Wirings.{wired_by}
use Rattle.msc_picture.proofs.QueuedLemmas.{AreNoted}
use Rattle.msc_picture.proofs.run.queued_of.Given as goal

abbrev pub invariant-loop-x : goal.invariant-loop-x
invariant-loop-x l =
    AreNoted (wired_by l.w) l.run l.after.items l.lasts.items (queue_bound l.w.queues l.w.chart.now)
    l.x-index
