use Rattle.std.proofs.Common.{arith}
use Rattle.msc_chart.specs.Orders.{wired}
use Rattle.msc_follow.proofs.Steps.{leads_from}
use Rattle.msc_follow.proofs.table.steps_of.Goals as goal

pub returns-clause-steps : goal.returns-clause-steps
returns-clause-steps c = λ x y. (
  c.loop-x.invariant.sound x y,
  λ h.
      let below = leads_from (wired c.args.queues c.args.chart.now) x y h in
      c.loop-x.invariant.complete x y (omega (arith, below, c.loop-x-test.false, c.events-events.ensures.number)) h,
)
