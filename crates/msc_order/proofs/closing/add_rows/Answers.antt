use Rattle.std.proofs.Common.{◌≡◌, ℕ, ◌+◌, ◌-◌, true, inl, inr, length, get_or, sym, subst, arith}
use Rattle.std.proofs.lemmas.Bool.{cases_eq}
use Rattle.msc_order.specs.Caused.{Led}
use Rattle.msc_order.specs.Closing.{IsBehind}
use Rattle.bit_rows.specs.Tables.{cell}
use Rattle.bit_rows.proofs.Bits.{clash}
use Rattle.msc_order.proofs.Leading.{all_stand, at_place, behind, behind_cases, led_below, nothing_behind, visual_below}
use Rattle.msc_order.proofs.closing.add_rows.Goals as goal

pub loop-done-init : goal.loop-done-init
loop-done-init c = record {
  begun = c.requires.begun;
  rows = λ x known none. clash (c.linear_order-order.ensures.whole x known) (all_stand c.linear_order-order.result.now x none);
}

pub add_row-requires-clause-known : goal.add_row-requires-clause-known
add_row-requires-clause-known c =
    let order = c.linear_order-order.result.now in
    (at_place c.args.chart.now.events order c.linear_order-order.ensures (length order - 1 - c.loop-done.done) (omega arith)).event

pub add_row-requires-clause-later : goal.add_row-requires-clause-later
add_row-requires-clause-later c f v =
    let events = c.args.chart.now.events in
    let order = c.linear_order-order.result.now in
    let i : ℕ = length order - 1 - c.loop-done.done in
    let same : i + 1 ≡ length order - c.loop-done.done = omega arith in
    let after = behind events order c.linear_order-order.ensures i (omega arith) f v in
    c.loop-done.invariant.rows f (visual_below events c.facts.ensures.matched _ f v).1 (subst (λ (k : ℕ). IsBehind order k f) same after)

pub loop-done-preserved : goal.loop-done-preserved
loop-done-preserved c =
    let events = c.args.chart.now.events in
    let order = c.linear_order-order.result.now in
    let i : ℕ = length order - 1 - c.loop-done.done in
    let same : i + 1 ≡ length order - c.loop-done.done = omega arith in
    let next : length order - (c.loop-done.done + 1) ≡ i = omega arith in
    record {
      begun = c.add_row.ensures.begun;
      rows = λ x within after y h. elim (cases_eq x (get_or order i 0)) [
        | inl here ↦ subst (λ (z : ℕ). cell (length events) c.add_row.new.words z y ≡ true) (sym here) (c.add_row.ensures.row y (subst (λ (z : ℕ). Led events c.args.inputs z y) here h))
        | inr other ↦
            let stood = behind_cases events order c.linear_order-order.ensures i (omega arith) x (subst (λ (k : ℕ). IsBehind order k x) next after) other in
            c.add_row.ensures.kept x y (c.loop-done.invariant.rows x within (subst (λ (k : ℕ). IsBehind order k x) same stood) y h)
      ];
    }

pub returns : goal.returns
returns c =
    let events = c.args.chart.now.events in
    let order = c.linear_order-order.result.now in
    let none : length order - c.loop-done.done ≡ 0 = omega arith in
    record {
      sound = c.loop-done.invariant.begun.sound;
      complete = λ x y h.
          c.loop-done.invariant.rows x (led_below events c.args.inputs c.facts.ensures.matched x y h).0
          (subst (λ (k : ℕ). IsBehind order k x) (sym none) (nothing_behind order x)) y h;
    }
