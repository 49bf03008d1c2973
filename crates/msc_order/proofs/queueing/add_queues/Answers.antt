use Rattle.std.proofs.Common.{◌≡◌, ℕ, ◌+◌, ◌-◌, true, false, inl, inr, length, get_or, sym, ◌∙◌, subst, arith}
use Rattle.std.proofs.lemmas.Bool.{cases_eq}
use Rattle.msc_chart.specs.Charts.{is_output}
use Rattle.msc_chart.specs.Orders.{queue}
use Rattle.msc_chart.proofs.Drawn.{output_parts}
use Rattle.msc_chart.specs.Wirings.{size, wired_by}
use Rattle.bit_rows.specs.Rows.{has}
use Rattle.bit_rows.specs.Tables.{cell}
use Rattle.msc_order.specs.Closing.{IsBehind}
use Rattle.bit_rows.proofs.Bits.{clash}
use Rattle.msc_order.proofs.Leading.{all_stand, at_place, behind, behind_cases, nothing_behind}
use Rattle.msc_order.proofs.Between.{between_start, enforced_all, enforced_below, led_visual}
use Rattle.msc_order.proofs.Taking.{taken_none}
use Rattle.msc_order.proofs.queueing.add_queues.Goals as goal
use Rattle.msc_order.proofs.queueing.add_queues.Goals.{then-is_output, else-is_output}

pub loop-done-init : goal.loop-done-init
loop-done-init c =
    let w = c.args.wiring.now in
    record {
      between = between_start (wired_by w) _ c.requires.caused;
      last = taken_none (wired_by w) (has c.args.kept.now) (has c.args.taken.now) c.requires.none c.requires.nothing;
      shown = λ q d h. clash h (c.requires.blank q d);
      behind = λ d o none. clash (c.linear_order-order.ensures.whole d (output_parts w.chart.now.events d o).0) (all_stand c.linear_order-order.result.now d none);
    }

pub is_output-requires : goal.is_output-requires
is_output-requires c =
    let order = c.linear_order-order.result.now in
    (at_place c.args.wiring.now.chart.now.events order c.linear_order-order.ensures (length order - 1 - c.loop-done.done) (omega arith)).event

pub add_queue_of-requires-clause-masks : goal.add_queue_of-requires-clause-masks
add_queue_of-requires-clause-masks c =
    let order = c.linear_order-order.result.now in
    let s : ℕ = get_or order (length order - 1 - c.loop-done.done) 0 in
    let row = c.requires.masks s (sym c.is_output.ensures ∙ c.if-is_output.true) in
    let same = c.loop-done.auto.masks in
    omega (arith, row, same)

pub add_queue_of-requires-clause-last : goal.add_queue_of-requires-clause-last
add_queue_of-requires-clause-last c = c.loop-done.invariant.last

pub add_queue_of-requires-clause-later : goal.add_queue_of-requires-clause-later
add_queue_of-requires-clause-later c d own after =
    let w = c.args.wiring.now in
    let events = w.chart.now.events in
    let order = c.linear_order-order.result.now in
    let i : ℕ = length order - 1 - c.loop-done.done in
    let same : i + 1 ≡ length order - c.loop-done.done = omega arith in
    let stands = behind events order c.linear_order-order.ensures i (omega arith) d (led_visual events false _ d after) in
    subst (λ (q : ℕ). cell (size w) c.loop-done.masks q d ≡ true) own.one_queue
    (c.loop-done.invariant.behind d own.output (subst (λ (k : ℕ). IsBehind order k d) same stands))

pub loop-done-preserved : goal.loop-done-preserved
loop-done-preserved c =
    let w = c.args.wiring.now in
    let events = w.chart.now.events in
    let order = c.linear_order-order.result.now in
    let i : ℕ = length order - 1 - c.loop-done.done in
    let same : i + 1 ≡ length order - c.loop-done.done = omega arith in
    let next : length order - (c.loop-done.done + 1) ≡ i = omega arith in
    let stood : (d : ℕ) → IsBehind order (length order - (c.loop-done.done + 1)) d → (d ≡ get_or order i 0 → ⊥) → IsBehind order (length order - c.loop-done.done) d = λ d after other.
    subst (λ (k : ℕ). IsBehind order k d) same (behind_cases events order c.linear_order-order.ensures i (omega arith) d (subst (λ (k : ℕ). IsBehind order k d) next after) other) in
    elim c.if-is_output.branch [
      | then-is_output t ↦ rw (t.words-is, t.masks-is, t.kept-is, t.taken-is) (record {
        last = t.add_queue_of.ensures.last;
        between = t.add_queue_of.ensures.between;
        shown = t.add_queue_of.ensures.seen;
        behind = λ d o after. elim (cases_eq d (get_or order i 0)) [
          | inl here ↦ subst (λ (z : ℕ). cell (size w) t.add_queue_of.new.masks (queue (wired_by w) z) z ≡ true) (sym here) t.add_queue_of.ensures.own
          | inr other ↦ t.add_queue_of.ensures.kept _ _ (c.loop-done.invariant.behind d o (stood d after other))
        ];
      })
      | else-is_output t ↦ rw (t.words-is, t.masks-is, t.kept-is, t.taken-is) (record {
        last = c.loop-done.invariant.last;
        between = c.loop-done.invariant.between;
        shown = c.loop-done.invariant.shown;
        behind = λ d o after. elim (cases_eq d (get_or order i 0)) [
          | inl here ↦ clash (subst (λ (z : ℕ). is_output events z ≡ true) here o) (sym c.is_output.ensures ∙ t.if-is_output.false)
          | inr other ↦ c.loop-done.invariant.behind d o (stood d after other)
        ];
      })
    ]

pub returns-clause-enforced : goal.returns-clause-enforced
returns-clause-enforced c =
    let w = c.args.wiring.now in
    let order = c.linear_order-order.result.now in
    let none : length order - c.loop-done.done ≡ 0 = omega arith in
    enforced_all (wired_by w) (c.ends_share_queues.ensures w.queues w.chart.now c.facts.ensures) (cell (size w) c.loop-done.words) c.loop-done.invariant.between
    (λ s o. (c.loop-done.invariant.shown (queue (wired_by w) s) s (c.loop-done.invariant.behind s o (subst (λ (k : ℕ). IsBehind order k s) (sym none) (nothing_behind order s)))).1)

pub returns-clause-tight : goal.returns-clause-tight
returns-clause-tight c x y h =
    (enforced_below (wired_by c.args.wiring.now) c.facts.ensures.matched x y (c.loop-done.invariant.between.enforced x y h)).1
