use Rattle.std.proofs.Common.{◌≡◌, ℕ, ◌<◌, map, length, ap, subst, ◌∙◌, arith}
use Rattle.std.specs.Map.Iter.{deref}
use Rattle.std.proofs.lemmas.List.{length-map}
use Rattle.msc_chart.specs.Events.{instances_of}
use Rattle.msc_chart.specs.Numbering.{IsFirstRepeat, AreNumbered}
use Rattle.msc_chart.specs.Lists.{IsLeast}
use Rattle.msc_chart.specs.Faults.{HoldsAt, IsUnknown}
use Rattle.msc_chart.proofs.Places.{repeat_at, numbered_at}
use Rattle.msc_chart.specs.Hashing.{equal_names}
use Rattle.msc_chart.proofs.Stages.{many_instances_first, few_instances_clear, repeated_instance_first, distinct_instances_clear, unknown_header_first, known_headers_clear, least_within, names_count}
use Rattle.msc_chart.proofs.building.instances.Goals as goal

pub returns-then-sections-clause-fault : goal.returns-then-sections-clause-fault
returns-then-sections-clause-fault c = λ _. many_instances_first c.args.draft.now (rw (← c.sections.ensures.value) c.if-sections.true)

pub overflow_cast-result : goal.overflow_cast-result
overflow_cast-result c =
    let r : IsFirstRepeat equal_names c.as_slice.result.now c.in-Some.i = repeat_at _ _ c.in_ok-numbers.numbers.keys _ _ c.in-Some.is c.in_ok-numbers.ensures in
    let seen : map deref c.as_slice.result.now ≡ instances_of c.args.draft.now = ap (map deref) c.as_slice.ensures.value ∙ c.in_ok-names.ensures in
    let count = names_count c.args.draft.now c.as_slice.result.now seen in
    omega (arith, r.within, ap length c.sections.ensures.value)

pub returns-in-Some-clause-fault : goal.returns-in-Some-clause-fault
returns-in-Some-clause-fault c =
    λ _. repeated_instance_first c.args.draft.now c.as_slice.result.now (ap (map deref) c.as_slice.ensures.value ∙ c.in_ok-names.ensures)
    (few_instances_clear c.args.draft.now (rw (← c.sections.ensures.value) (omega arith))) c.in-Some.i
    (repeat_at _ _ c.in_ok-numbers.numbers.keys _ _ c.in-Some.is c.in_ok-numbers.ensures)

pub overflow_cast-result-in-Some-unknown_header : goal.overflow_cast-result-in-Some-unknown_header
overflow_cast-result-in-Some-unknown_header c =
    let within : c.in-Some-unknown_header.k < length (map (λ x. x.name) c.header.result.now) = least_within _ _ c.in-Some-unknown_header.ensures in
    omega (arith, c.header.ensures.few, simp length-map at within, ap length c.header.ensures.value)

pub returns-in-Some-unknown_header-clause-fault : goal.returns-in-Some-unknown_header-clause-fault
returns-in-Some-unknown_header-clause-fault c =
    let n : AreNumbered equal_names c.as_slice.result.now c.in_ok-numbers.numbers.keys = numbered_at _ _ _ _ c.in_default.is c.in_ok-numbers.ensures in
    let seen : map deref c.as_slice.result.now ≡ instances_of c.args.draft.now = ap (map deref) c.as_slice.ensures.value ∙ c.in_ok-names.ensures in
    let keys_seen : map deref c.in_ok-numbers.numbers.keys ≡ instances_of c.args.draft.now = ap (map deref) n.same ∙ seen in
    let clear = distinct_instances_clear c.args.draft.now c.as_slice.result.now seen (few_instances_clear c.args.draft.now (rw (← c.sections.ensures.value) (omega arith))) n.new in
    λ _. unknown_header_first c.args.draft.now c.in_ok-numbers.numbers.keys keys_seen clear c.in-Some-unknown_header.k
    (subst (λ h. IsLeast (HoldsAt (IsUnknown (map deref c.in_ok-numbers.numbers.keys)) (map (λ x. x.name) h)) c.in-Some-unknown_header.k) c.header.ensures.value c.in-Some-unknown_header.ensures)

pub returns-clause-clear : goal.returns-clause-clear
returns-clause-clear c =
    let n : AreNumbered equal_names c.as_slice.result.now c.in_ok-numbers.numbers.keys = numbered_at _ _ _ _ c.in_default.is c.in_ok-numbers.ensures in
    let seen : map deref c.as_slice.result.now ≡ instances_of c.args.draft.now = ap (map deref) c.as_slice.ensures.value ∙ c.in_ok-names.ensures in
    let keys_seen : map deref c.in_ok-numbers.numbers.keys ≡ instances_of c.args.draft.now = ap (map deref) n.same ∙ seen in
    let clear = distinct_instances_clear c.args.draft.now c.as_slice.result.now seen (few_instances_clear c.args.draft.now (rw (← c.sections.ensures.value) (omega arith))) n.new in
    known_headers_clear c.args.draft.now c.in_ok-numbers.numbers.keys keys_seen clear
    (subst (λ h. (k : ℕ) → HoldsAt (IsUnknown (map deref c.in_ok-numbers.numbers.keys)) (map (λ x. x.name) h) k → ⊥) c.header.ensures.value c.in_default-unknown_header.ensures)
