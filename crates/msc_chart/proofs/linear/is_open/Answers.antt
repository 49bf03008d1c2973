use Rattle.std.proofs.Common.{◌≡◌, ◌∙◌, sym, true, inl, inr, arith}
use Rattle.std.proofs.lemmas.Bool.{OnTrue_from, OnFalse_from}
use Rattle.msc_chart.specs.Charts.{segment, partner, kind, is_input}
use Rattle.msc_chart.proofs.Drawn.{controlled_from, controlled_parts, controlled_or_input}
use Rattle.msc_chart.proofs.ListLemmas.{clash}
use Rattle.msc_chart.proofs.SortingLemmas.{barred_by_first, controlled_open, input_open, input_barred}
use Rattle.msc_chart.proofs.linear.is_open.Goals as goal

pub returns-then-events-first-clause-barred : goal.returns-then-events-first-clause-barred
unfolding segment
returns-then-events-first-clause-barred c =
    let r = c.requires in
    barred_by_first c.args.events.now c.args.marks.now r.ready.0 r.ready.1 c.args.e c.args.first r.event r.first r.left r.below c.if-events-first.true

pub returns-then-is_controlled-clause-open : goal.returns-then-is_controlled-clause-open
unfolding segment kind
returns-then-is_controlled-clause-open c =
    let r = c.requires in
    controlled_open c.args.events.now c.args.marks.now r.ready.0 r.ready.1 c.args.e c.args.first r.event r.first r.left r.below c.if-events-first.false
    (controlled_from c.args.events.now c.args.e r.event (sym c.is_controlled.ensures ∙ c.if-is_controlled.true))

pub bounds-marks-events : goal.bounds-marks-events
unfolding partner
bounds-marks-events c = let p = c.requires.ready.1.matched.in_range c.args.e c.requires.event in omega (arith, p, c.requires.marks)

pub returns-clause-open : goal.returns-clause-open
unfolding segment partner
returns-clause-open c =
    let r = c.requires in
    OnTrue_from _ _ (λ there. input_open c.args.events.now c.args.marks.now r.ready.0 r.ready.1 c.args.e c.args.first r.event r.first r.left r.below c.if-events-first.false there)

pub returns-clause-barred : goal.returns-clause-barred
unfolding segment partner kind
returns-clause-barred c =
    let r = c.requires in
    let input : is_input c.args.events.now c.args.e ≡ true =
    elim (controlled_or_input c.args.events.now c.args.e r.event) [
      | inl o ↦ clash (c.is_controlled.ensures ∙ (controlled_parts c.args.events.now c.args.e o).1) c.if-is_controlled.false
      | inr i ↦ i
    ] in
    OnFalse_from _ _ (λ away. input_barred c.args.events.now c.args.marks.now r.ready.0 r.ready.1 c.args.e c.args.first r.event r.first r.left r.below input away)
