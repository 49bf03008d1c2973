use Rattle.std.proofs.Common.{◌<◌, arith}
use Rattle.msc_chart.proofs.Lawful.{acyclic_at}
use Rattle.msc_chart.proofs.StuckLemmas.{stuck_cyclic}
use Rattle.msc_chart.proofs.linear.linear_order.Goals as goal

-- a sorting that is stuck has a cycle
pub returns-in-None-clause-order : goal.returns-in-None-clause-order
returns-in-None-clause-order c =
    let some : 0 < c.in_ok-sorting.sorting.left = omega arith in
    absurd (stuck_cyclic c.args.events.now _ _ _ _ c.in_ok-sorting.ensures.sorting.0 c.in_ok-sorting.ensures.stuck some (acyclic_at c.args.events.now _ c.in-None.is c.in_ok-e.ensures))
