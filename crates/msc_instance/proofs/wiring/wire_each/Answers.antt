use Rattle.std.proofs.Common.{arith}
use Rattle.msc_instance.proofs.Quotas.{row_is, quotas_fit, takes_is, known_receiver}
use Rattle.msc_instance.proofs.Wired.{wired_more}
use Rattle.msc_instance.proofs.wiring.wire_each.Goals as goal

pub wire_queue-requires-clause-receiver : goal.wire_queue-requires-clause-receiver
wire_queue-requires-clause-receiver c some =
    let row = row_is c.args.queues c.args.chart.now c.loop-q.q c.instances-instances.result
    c.args.counts.now c.instances-instances.ensures.number
    c.facts.ensures c.requires.counts c.queue_count-bound.result
    (rw (← c.queue_count-bound.ensures.value) at c.requires.rows) c.loop-q-test.true in
    let known = known_receiver c.args.queues c.args.chart.now c.loop-q.q c.args.receivers.now
    c.facts.ensures c.queues_are_bounded.ensures c.requires.receivers
    (rw row at some) in
    omega (arith, known, c.loop-q.invariant.many)

pub wire_queue-requires-clause-sum : goal.wire_queue-requires-clause-sum
wire_queue-requires-clause-sum c =
    let row = row_is c.args.queues c.args.chart.now c.loop-q.q c.instances-instances.result
    c.args.counts.now c.instances-instances.ensures.number
    c.facts.ensures c.requires.counts c.queue_count-bound.result
    (rw (← c.queue_count-bound.ensures.value) at c.requires.rows) c.loop-q-test.true in
    rw row (quotas_fit c.args.queues c.args.chart.now c.loop-q.q c.facts.ensures)

pub loop-q-preserved : goal.loop-q-preserved
loop-q-preserved c =
    let row = row_is c.args.queues c.args.chart.now c.loop-q.q c.instances-instances.result
    c.args.counts.now c.instances-instances.ensures.number
    c.facts.ensures c.requires.counts c.queue_count-bound.result
    (rw (← c.queue_count-bound.ensures.value) at c.requires.rows) c.loop-q-test.true in
    wired_more c.wiring_grows.ensures c.args.queues c.args.chart.now c.loop-q.q _ _ c.loop-q.all
    c.wire_queue.new.all row (omega arith)
    (takes_is c.args.queues c.args.chart.now c.loop-q.q c.args.receivers.now c.facts.ensures
    c.queues_are_bounded.ensures c.requires.receivers)
    c.loop-q.invariant c.in_ok-wire_queue.ensures
