use Rattle.msc_order.specs.Closing.{IsWellKept}
use Rattle.std.proofs.Common.{ap, ℕ, List, length, sym, ◌∙◌, subst}
use Rattle.std.proofs.lemmas.List.{with_items_is}
use Rattle.msc_chart.specs.Orders.{wired}
use Rattle.msc_order.proofs.Seen.{length-table_of, enforced_seen}
use Rattle.msc_order.proofs.order.Order.enforced.Goals as goal

pub close_under_queues-requires-clause-blank : goal.close_under_queues-requires-clause-blank
close_under_queues-requires-clause-blank c x y = rw (c.deref_mut.ensures.value, sym c.events-events.ensures.number) (c.in_ok-words.ensures.none x y)

pub returns-clause-events : goal.returns-clause-events
returns-clause-events c = length-table_of _ _ ∙ c.events-events.ensures.number

pub returns-clause-enforced : goal.returns-clause-enforced
returns-clause-enforced c =
    let same = with_items_is c.in_ok-words.words c.close_under_queues.new.words (c.close_under_queues.auto.words ∙ c.deref_mut.ensures.len) in
    rw (c.events-events.ensures.number, same)
    (enforced_seen (wired c.args.queues c.args.chart.now) c.events-events.ensures.accepted.matched c.close_under_queues.new.words c.in_ok-close_under_queues.ensures.enforced)

pub invariant_of-result : goal.invariant_of-result
invariant_of-result c =
    let n : ℕ = length c.args.chart.now.events in
    let same = with_items_is c.in_ok-words.words c.close_under_queues.new.words (c.close_under_queues.auto.words ∙ c.deref_mut.ensures.len) in
    rw (c.events-events.ensures.number) (subst (λ (words : List ℕ). IsWellKept n words) (sym same) (record {
      square = c.close_under_queues.auto.words ∙ ap length c.deref_mut.ensures.value ∙ rw c.events-events.ensures.number at c.in_ok-words.ensures.square;
      tight = c.in_ok-close_under_queues.ensures.tight;
    }))
