use Rattle.std.proofs.Common.{ℕ, List, map, ap, ◌∙◌, subst}
use Rattle.std.specs.String.{string_bytes}
use Rattle.msc_full.specs.declared.step.ShownStep.{ShownStep}
use Rattle.msc_parser.specs.declared.tree.Section.{Section}
use Rattle.msc_shown_chart.specs.Shown.{PlainEvent}
use Rattle.msc_shown_chart.specs.Words.{name_said}
use Rattle.msc_refusals.specs.Rings.{plain_ring, IsWaiting}
use Rattle.msc_refusals.proofs.ring.ring_block.Goals as goal

pub returns : goal.returns
returns c =
    let r = c.args.reader.now.refused in
    let said : Section → List ℕ = λ section. name_said section.decl.name in
    let printed = c.in_ok-bytes.bytes.items in
    let events : List PlainEvent = map plain_ring c.in_ok-events.events.items in
    let steps = c.in_ok-steps.steps.items in
    let names = ap (map string_bytes) c.as_slice.ensures.value ∙ c.in_ok-names.ensures ∙ ap (map said) c.sections.ensures.value in
    let named = subst (λ (l : List (List ℕ)). IsWaiting r.text.now r.colours l (map plain_ring c.as_slice-2.result.now) c.as_slice-3.result.now printed) names c.in_ok-bytes.ensures in
    let told = subst (λ (l : List PlainEvent). IsWaiting r.text.now r.colours (map said c.args.reader.now.draft.now.sections) l c.as_slice-3.result.now printed) (ap (map plain_ring) c.as_slice-2.ensures.value) named in record {
      events = events;
      are = c.in_ok-events.ensures;
      steps = steps;
      waiting = subst (λ (l : List ShownStep). IsWaiting r.text.now r.colours (map said c.args.reader.now.draft.now.sections) events l printed) c.as_slice-3.ensures.value told;
    }
