use Rattle.msc_order.specs.Closing.{IsWellKept}
use Rattle.std.proofs.Common.{ap, ℕ, true, List, length, sym, ◌∙◌, subst}
use Rattle.std.proofs.lemmas.List.{with_items_is}
use Rattle.msc_order.proofs.Leading.{led_below}
use Rattle.msc_order.proofs.Seen.{length-table_of, visual_seen}
use Rattle.msc_order.proofs.order.Order.visual.Goals as goal

pub close-requires-clause-blank : goal.close-requires-clause-blank
close-requires-clause-blank c x y = rw (c.deref_mut.ensures.value, sym c.events-events.ensures.number) (c.in_ok-words.ensures.none x y)

pub returns-clause-events : goal.returns-clause-events
returns-clause-events c = length-table_of _ _ ∙ c.events-events.ensures.number

pub returns-clause-visual : goal.returns-clause-visual
returns-clause-visual c =
    let n : ℕ = length c.args.chart.now.events in
    let same = with_items_is c.in_ok-words.words c.close.new.words (c.close.auto.words ∙ c.deref_mut.ensures.len) in
    rw (c.events-events.ensures.number, same) (visual_seen c.args.chart.now.events c.events-events.ensures.accepted.matched c.close.new.words c.in_ok-close.ensures)

pub invariant_of-result : goal.invariant_of-result
invariant_of-result c =
    let n : ℕ = length c.args.chart.now.events in
    let same = with_items_is c.in_ok-words.words c.close.new.words (c.close.auto.words ∙ c.deref_mut.ensures.len) in
    rw (c.events-events.ensures.number) (subst (λ (words : List ℕ). IsWellKept n words) (sym same) (record {
      square = c.close.auto.words ∙ ap length c.deref_mut.ensures.value ∙ rw c.events-events.ensures.number at c.in_ok-words.ensures.square;
      tight = λ x y h. (led_below c.args.chart.now.events true c.events-events.ensures.accepted.matched x y (c.in_ok-close.ensures.sound x y h)).1;
    }))
