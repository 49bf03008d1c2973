use Rattle.std.proofs.Common.{◌≡◌, ℕ, map, ap, subst, sym, ◌∙◌, arith}
use Rattle.msc_chart.specs.Events.{acts_of}
use Rattle.msc_chart.specs.Faults.{IsTwice}
use Rattle.msc_chart.specs.Charts.{IsLinearOrder}
use Rattle.msc_chart.specs.Drawings.{chart_events}
use Rattle.msc_chart.specs.Sortings.{IsCycleOrMemory}
use Rattle.msc_chart.specs.Views.{event_view, mark_view}
use Rattle.msc_chart.proofs.Stages.{marks_count}
use Rattle.msc_chart.proofs.Matched.{chart_ready, none-two_rounds}
use Rattle.msc_chart.proofs.Lawful.{made, cyclic_first, passed_on, linear_faultless}
use Rattle.msc_chart.proofs.building.ordered_events.Goals as goal

pub chart_events-requires-clause-acts : goal.chart_events-requires-clause-acts
unfolding acts_of
chart_events-requires-clause-acts c = c.requires.acts ∙ sym (ap (map (λ x. x.act)) c.requires.drawn)

pub chart_events-requires-clause-once : goal.chart_events-requires-clause-once
chart_events-requires-clause-once c =
    subst (λ acts. (k : ℕ) → IsTwice acts k → ⊥) (sym c.requires.acts)
    (none-two_rounds c.args.draft.now c.in_ok-partners.ensures.clear)

pub linear_order-requires : goal.linear_order-requires
linear_order-requires c =
    let d = c.args.draft.now in
    let events : c.in_ok-events.events.items ≡ chart_events d = made d (map mark_view c.args.places.now.keys) (map event_view c.args.drawn.now) _ c.requires.acts c.requires.drawn c.in_ok-events.ensures in
    let same : c.as_slice-2.result.now ≡ chart_events d = c.as_slice-2.ensures.value ∙ events in
    let few = marks_count d c.args.places.now.keys c.requires.acts in
    rw (c.sections.ensures.value, same) (chart_ready d c.in_ok-partners.ensures.clear (omega (arith, few, c.requires.few)))

pub returns-clause-events : goal.returns-clause-events
returns-clause-events c = made c.args.draft.now (map mark_view c.args.places.now.keys) (map event_view c.args.drawn.now) _ c.requires.acts c.requires.drawn c.in_ok-events.ensures

pub returns-clause-order : goal.returns-clause-order
returns-clause-order c = rw (← c.as_slice-2.ensures.value) c.in_ok-order.ensures.order

pub returns-clause-faultless : goal.returns-clause-faultless
returns-clause-faultless c =
    let d = c.args.draft.now in
    let events : c.in_ok-events.events.items ≡ chart_events d = made d (map mark_view c.args.places.now.keys) (map event_view c.args.drawn.now) _ c.requires.acts c.requires.drawn c.in_ok-events.ensures in
    let same : c.as_slice-2.result.now ≡ chart_events d = c.as_slice-2.ensures.value ∙ events in
    linear_faultless d c.in_ok-partners.ensures.clear c.in_ok-order.order.items (subst (λ es. IsLinearOrder es c.in_ok-order.order.items) same c.in_ok-order.ensures.order)

pub returns-in_err-order-clause-fault : goal.returns-in_err-order-clause-fault
returns-in_err-order-clause-fault c =
    let d = c.args.draft.now in
    let events : c.in_ok-events.events.items ≡ chart_events d = made d (map mark_view c.args.places.now.keys) (map event_view c.args.drawn.now) _ c.requires.acts c.requires.drawn c.in_ok-events.ensures in
    let same : c.as_slice-2.result.now ≡ chart_events d = c.as_slice-2.ensures.value ∙ events in
    let fault : IsCycleOrMemory (chart_events d) c.in_err-order.field-0.0 = subst (λ es. IsCycleOrMemory es c.in_err-order.field-0.0) same c.in_err-order.ensures.fault in
    passed_on d c.from_residual-in_err-order.result c.in_err-order.field-0.0 c.from_residual-in_err-order.ensures.1 (cyclic_first d c.in_ok-partners.ensures.clear c.in_err-order.field-0.0 fault)
