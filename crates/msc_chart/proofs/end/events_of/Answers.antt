use Rattle.std.proofs.Common.{◌≡◌, drop, [], ◌<◌, ◌++◌, length, map, arith, sym, ap, ◌∙◌}
use Rattle.std.proofs.lemmas.List.{length-append, length-map, append-nil, drop_all}
use Rattle.msc_chart.specs.Events.{events_of, events_of_sections}
use Rattle.msc_chart.specs.Views.{event_view}
use Rattle.msc_chart.proofs.EndLemmas.{next-sections}
use Rattle.msc_chart.proofs.DraftEvents.{events_count}
use Rattle.msc_chart.proofs.end.events_of.Goals as goal

pub push_section-requires : goal.push_section-requires
unfolding events_of
push_section-requires c =
    let within : c.loop-section.section-index < length c.sections-section-items.result.now = omega arith in
    let count = events_count c.args.draft.now in
    let all : events_of_sections 0 c.sections-section-items.result.now ≡ events_of_sections 0 c.args.draft.now.sections = ap (events_of_sections 0) c.sections-section-items.ensures.value in
    let parts = next-sections c.loop-section.line _ _ _ within c.section-item.is in
    omega (arith, (rw c.sections-section-items.ensures.value at c.sections-section-items.ensures.few), count, ap length all, simp (length-append, length-map) at (ap length c.loop-section.invariant.pushed), simp length-append at (ap length parts))

pub returns-clause-events : goal.returns-clause-events
unfolding events_of
returns-clause-events c =
    let xs = c.sections-section-items.result.now in
    let none : drop c.loop-section.section-index xs ≡ [] = drop_all c.loop-section.section-index xs (omega arith) in
    sym (append-nil _)
    ∙ ap (λ r. map event_view c.loop-section.events.items ++ events_of_sections c.loop-section.line r) (sym none)
    ∙ c.loop-section.invariant.pushed
    ∙ ap (events_of_sections 0) c.sections-section-items.ensures.value

-- no draft has more events than a text has bytes
pub returns-clause-few : goal.returns-clause-few
unfolding events_of
returns-clause-few c =
    let count = events_count c.args.draft.now in
    let all : events_of_sections 0 c.sections-section-items.result.now ≡ events_of_sections 0 c.args.draft.now.sections = ap (events_of_sections 0) c.sections-section-items.ensures.value in
    omega (arith, (rw c.sections-section-items.ensures.value at c.sections-section-items.ensures.few), count, ap length all, simp (length-append, length-map) at (ap length c.loop-section.invariant.pushed))
