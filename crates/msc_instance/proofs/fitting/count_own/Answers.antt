use Rattle.std.proofs.Common.{◌∙◌, ap, arith, cond, nat_eq}
use Rattle.msc_chart.specs.Drawings.{receiver_of, sender_of}
use Rattle.msc_instance.proofs.Counted.{queue_small}
use Rattle.msc_instance.proofs.Fitted.{own_small, own_counted, byte_is, byte_small}
use Rattle.std.proofs.Common.{◌≡◌, length, subst}
use Rattle.msc_instance.specs.Fitting.{AreCountsOf}
use Rattle.msc_instance.proofs.TableLemmas.{sent_numbers, taken_numbers, counts_all}
use Rattle.msc_instance.proofs.fitting.count_own.Goals as goal

pub bounds-sent-q : goal.bounds-sent-q
bounds-sent-q c =
    let q = queue_small c.args.queues c.args.chart.now c.facts.ensures c.loop-m.m (omega arith)
    c.events_have_queues.ensures c.queue_numbers_are_bounded.ensures.numbers in
    omega (arith, q)

pub bounds-sent-q-in-loop-m : goal.bounds-sent-q-in-loop-m
bounds-sent-q-in-loop-m c =
    let q = queue_small c.args.queues c.args.chart.now c.facts.ensures c.loop-m.m (omega arith)
    c.events_have_queues.ensures c.queue_numbers_are_bounded.ensures.numbers in
    omega (arith, q)

pub overflow_add-sent : goal.overflow_add-sent
overflow_add-sent c =
    let small = own_small (sender_of c.args.chart.now) c.args.queues c.args.chart.now c.args.i
    c.loop-m.m c.loop-m.sent c.queue-q.result c.loop-m.invariant.sent
    (bounds-sent-q-in-loop-m c) in
    let one = byte_small (nat_eq c.sender.result c.args.i) in
    omega (arith, small, one, c.from.ensures)

pub bounds-taken-q : goal.bounds-taken-q
bounds-taken-q c =
    let q = queue_small c.args.queues c.args.chart.now c.facts.ensures c.loop-m.m (omega arith)
    c.events_have_queues.ensures c.queue_numbers_are_bounded.ensures.numbers in
    omega (arith, q)

pub bounds-taken-q-in-loop-m : goal.bounds-taken-q-in-loop-m
bounds-taken-q-in-loop-m c =
    let q = queue_small c.args.queues c.args.chart.now c.facts.ensures c.loop-m.m (omega arith)
    c.events_have_queues.ensures c.queue_numbers_are_bounded.ensures.numbers in
    omega (arith, q)

pub overflow_add-taken : goal.overflow_add-taken
overflow_add-taken c =
    let small = own_small (receiver_of c.args.chart.now) c.args.queues c.args.chart.now c.args.i
    c.loop-m.m c.loop-m.taken c.queue-q.result c.loop-m.invariant.taken
    (bounds-taken-q-in-loop-m c) in
    let one = byte_small (nat_eq c.receiver.result c.args.i) in
    omega (arith, small, one, c.from-in-loop-m.ensures)

pub loop-m-preserved : goal.loop-m-preserved
loop-m-preserved c = record {
  sent = own_counted (sender_of c.args.chart.now) c.args.queues c.args.chart.now c.args.i c.loop-m.m
      c.loop-m.sent c.queue-q.result c.from.result c.queue-q.ensures
      (c.from.ensures ∙ byte_is _ ∙ ap (λ x. cond (nat_eq x c.args.i) 1 0) c.sender.ensures.value)
      c.loop-m.invariant.sent;
  taken = own_counted (receiver_of c.args.chart.now) c.args.queues c.args.chart.now c.args.i
      c.loop-m.m c.loop-m.taken c.queue-q.result c.from-in-loop-m.result c.queue-q.ensures
      (c.from-in-loop-m.ensures ∙ byte_is _ ∙ ap (λ x. cond (nat_eq x c.args.i) 1 0)
      c.receiver.ensures.value) c.loop-m.invariant.taken;
}

pub returns-clause-sent : goal.returns-clause-sent
returns-clause-sent c =
    let done : c.loop-m.m ≡ length c.args.chart.now.messages = omega arith in
    sent_numbers c.args.queues c.args.chart.now c.args.i c.loop-m.sent (omega arith)
    (subst (λ n. AreCountsOf (sender_of c.args.chart.now) c.args.queues c.args.chart.now c.args.i n
    c.loop-m.sent)
    done c.loop-m.invariant.sent)

pub returns-clause-taken : goal.returns-clause-taken
returns-clause-taken c =
    let done : c.loop-m.m ≡ length c.args.chart.now.messages = omega arith in
    taken_numbers c.args.queues c.args.chart.now c.args.i c.loop-m.taken (omega arith)
    (subst (λ n. AreCountsOf (receiver_of c.args.chart.now) c.args.queues c.args.chart.now c.args.i
    n c.loop-m.taken)
    done c.loop-m.invariant.taken)

pub returns-clause-quotas : goal.returns-clause-quotas
returns-clause-quotas c =
    let done : c.loop-m.m ≡ length c.args.chart.now.messages = omega arith in
    counts_all c.args.queues c.args.chart.now c.args.i c.loop-m.sent (omega arith)
    c.facts.ensures
    c.events_have_queues.ensures c.queue_numbers_are_bounded.ensures.numbers
    (subst (λ n. AreCountsOf (sender_of c.args.chart.now) c.args.queues c.args.chart.now c.args.i n
    c.loop-m.sent)
    done c.loop-m.invariant.sent)
