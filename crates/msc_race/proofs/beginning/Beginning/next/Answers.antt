use Rattle.std.proofs.lemmas.Option.{IfSome_then}
use Rattle.msc_race.proofs.Shared.{clash}
use Rattle.msc_race.proofs.Making.NextLemmas.{mask_of_all, mask_of_rest, mask_of_unheld, IfNone_then}
use Rattle.msc_race.proofs.beginning.Beginning.next.Goals as goal

pub returns-then-not-has_free-clause-some : goal.returns-then-not-has_free-clause-some
returns-then-not-has_free-clause-some c choice asked =
    let is_wired = c.ends_share_queues.ensures choice.wiring.queues choice.wiring.chart.now asked.settled.accepted in
    let mask =
    mask_of_all choice c.args.self.now asked.settled asked.kept is_wired c.a_witness_goes_on.ensures.run c.no_run_is_stuck.ensures.longer
    (λ some. clash (c.has_free.ensures.1 some) c.if-not-has_free.true) in
    IfSome_then c.lowest.result (rw c.deref.ensures.value at c.lowest.ensures.some) mask.next

pub returns-then-not-has_free-clause-none : goal.returns-then-not-has_free-clause-none
returns-then-not-has_free-clause-none c choice asked =
    let is_wired = c.ends_share_queues.ensures choice.wiring.queues choice.wiring.chart.now asked.settled.accepted in
    let mask =
    mask_of_all choice c.args.self.now asked.settled asked.kept is_wired c.a_witness_goes_on.ensures.run c.no_run_is_stuck.ensures.longer
    (λ some. clash (c.has_free.ensures.1 some) c.if-not-has_free.true) in
    IfNone_then c.lowest.result (rw c.deref.ensures.value at c.lowest.ensures.none) mask.whole

pub returns-then-has_passed-clause-some : goal.returns-then-has_passed-clause-some
returns-then-has_passed-clause-some c choice asked =
    let is_wired = c.ends_share_queues.ensures choice.wiring.queues choice.wiring.chart.now asked.settled.accepted in
    let mask =
    mask_of_unheld choice c.args.self.now asked.settled asked.kept is_wired c.a_witness_goes_on.ensures.next
    (c.has_free.ensures.0 c.if-not-has_free.false) (c.has_passed.ensures.0 c.if-has_passed.true) in
    IfSome_then c.lowest-then-has_passed.result (rw c.deref-then-has_passed.ensures.value at c.lowest-then-has_passed.ensures.some) mask.next

pub returns-then-has_passed-clause-none : goal.returns-then-has_passed-clause-none
returns-then-has_passed-clause-none c choice asked =
    let is_wired = c.ends_share_queues.ensures choice.wiring.queues choice.wiring.chart.now asked.settled.accepted in
    let mask =
    mask_of_unheld choice c.args.self.now asked.settled asked.kept is_wired c.a_witness_goes_on.ensures.next
    (c.has_free.ensures.0 c.if-not-has_free.false) (c.has_passed.ensures.0 c.if-has_passed.true) in
    IfNone_then c.lowest-then-has_passed.result (rw c.deref-then-has_passed.ensures.value at c.lowest-then-has_passed.ensures.none) mask.whole

pub returns-clause-some : goal.returns-clause-some
returns-clause-some c choice asked =
    let is_wired = c.ends_share_queues.ensures choice.wiring.queues choice.wiring.chart.now asked.settled.accepted in
    let mask =
    mask_of_rest choice c.args.self.now asked.settled asked.kept is_wired c.a_witness_goes_on.ensures.next
    (c.has_free.ensures.0 c.if-not-has_free.false) (λ passed. clash (c.has_passed.ensures.1 passed) c.if-has_passed.false) in
    IfSome_then c.lowest-2.result (rw c.deref-2.ensures.value at c.lowest-2.ensures.some) mask.next

pub returns-clause-none : goal.returns-clause-none
returns-clause-none c choice asked =
    let is_wired = c.ends_share_queues.ensures choice.wiring.queues choice.wiring.chart.now asked.settled.accepted in
    let mask =
    mask_of_rest choice c.args.self.now asked.settled asked.kept is_wired c.a_witness_goes_on.ensures.next
    (c.has_free.ensures.0 c.if-not-has_free.false) (λ passed. clash (c.has_passed.ensures.1 passed) c.if-has_passed.false) in
    IfNone_then c.lowest-2.result (rw c.deref-2.ensures.value at c.lowest-2.ensures.none) mask.whole
