use Rattle.std.proofs.Common.{ℕ, ◌+◌, ◌*◌, ◌∙◌, arith}
use Rattle.msc_instance.proofs.Counted.{queue_small, place_in, count_small, counted_more, place_is, receivers_more}
use Rattle.msc_instance.proofs.counting.count.Goals as goal

pub bounds-counts-q : goal.bounds-counts-q
bounds-counts-q c =
    place_in c.args.queues c.args.chart.now c.facts.ensures c.loop-m.m (omega arith)
    c.events_have_queues.ensures c.queue_numbers_are_bounded.ensures.numbers
    c.instances-instances.result c.queue-q.result c.sender.result c.loop-m.counts
    c.instances-instances.ensures.number c.queue-q.ensures c.sender.ensures.known
    (c.loop-m.auto.counts ∙ c.requires.counts)

pub bounds-counts-q-in-loop-m : goal.bounds-counts-q-in-loop-m
bounds-counts-q-in-loop-m c =
    place_in c.args.queues c.args.chart.now c.facts.ensures c.loop-m.m (omega arith)
    c.events_have_queues.ensures c.queue_numbers_are_bounded.ensures.numbers
    c.instances-instances.result c.queue-q.result c.sender.result c.loop-m.counts
    c.instances-instances.ensures.number c.queue-q.ensures c.sender.ensures.known
    (c.loop-m.auto.counts ∙ c.requires.counts)

pub overflow_add-counts-in-loop-m : goal.overflow_add-counts-in-loop-m
overflow_add-counts-in-loop-m c =
    let small = count_small c.args.queues c.args.chart.now c.loop-m.m c.loop-m.counts
    (c.queue-q.result * c.instances-instances.result + c.sender.result)
    c.loop-m.invariant.counts (bounds-counts-q-in-loop-m c) in
    omega (arith, small)

pub bounds-receivers-q : goal.bounds-receivers-q
bounds-receivers-q c =
    let q = queue_small c.args.queues c.args.chart.now c.facts.ensures c.loop-m.m (omega arith)
    c.events_have_queues.ensures c.queue_numbers_are_bounded.ensures.numbers in
    omega (arith, q)

pub loop-m-preserved : goal.loop-m-preserved
loop-m-preserved c =
    let d = c.args.chart.now in
    let place : ℕ = c.queue-q.result * c.instances-instances.result + c.sender.result in
    let place_is' = place_is c.args.queues d c.loop-m.m c.instances-instances.result
    c.queue-q.result c.sender.result c.instances-instances.ensures.number c.queue-q.ensures
    c.sender.ensures.value in
    let bounded = c.queues_are_bounded.ensures c.args.queues d c.loop-m.m c.facts.ensures
    (omega arith) in
    record {
      counts = counted_more c.args.queues d c.loop-m.m c.loop-m.counts place place_is'
          c.loop-m.invariant.counts;
      receivers = receivers_more c.args.queues d c.loop-m.m c.loop-m.receivers c.queue-q.result
          c.receiver.result c.queue-q.ensures c.receiver.ensures.value
          (omega arith) bounded (bounds-receivers-q c) c.loop-m.invariant.receivers;
    }
