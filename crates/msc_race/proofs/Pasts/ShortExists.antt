-- Two events that are not enforced in an order have a short witness: what comes next can be told.
use Rattle.std.proofs.Common.{◌≡◌, ℕ, zero, suc, ◌<◌, ◌≤◌, Bool, true, ◌||◌, ◌⊎◌, inl, inr, eqb, List, [], ◌∷◌, ◌++◌, length, refl, arith}
use Rattle.std.proofs.lemmas.Bool.{eqb-true, eq-eqb, false_from_ne_true, or_cases, or_left, or_right}
use Rattle.std.proofs.Math.Nat.{le_refl}
use Rattle.msc_chart.specs.Lists.{occurs, Steps}
use Rattle.msc_chart.specs.Charts.{IsAcyclic}
use Rattle.msc_chart.specs.Orders.{WiredChart, IsWired, IsEnforcedOrder}
use Rattle.msc_chart.proofs.Left.{is_left, left_less}
use Rattle.msc_race.specs.Short.{IsHeldFor, IsNeeded, IsShortNext, IsShortWitness, IsTakenFor, MayComeFor}
use Rattle.msc_race.proofs.Shared.{by_test, clash, count_below, Steps-push}
use Rattle.msc_race.proofs.Runs.Inside.{held_from, held_parts, is_held, is_passed_on, passed_on_from, passed_on_parts, MayComeInside}
use Rattle.msc_race.proofs.Runs.EventLemmas.{output_below}
use Rattle.msc_race.proofs.Runs.Deciding.{inside_decided, least_below}
use Rattle.msc_race.proofs.Runs.Growing.{left_counted}
use Rattle.msc_race.proofs.Runs.Tables.{enforced_order}
use Rattle.msc_race.proofs.Runs.WholeRuns.{everything}
use Rattle.msc_race.proofs.Runs.WitnessExists.{witness_exists}
use Rattle.msc_race.proofs.Pasts.ShortWitnesses.{all_needed, never_needed, short_steps}

-- the event is f, or before f in an order
is_needed_by : (ℕ → ℕ → Bool) → ℕ → ℕ → Bool
is_needed_by order f x = eqb x f || order x f

module _ (chart : WiredChart) (is_wired : IsWired chart) (f : ℕ) (below : f < length chart.events)
    (order : ℕ → ℕ → Bool) (told : IsEnforcedOrder chart order) where
  -- the test for the past of f
  abbrev needed : ℕ → Bool
  needed = is_needed_by order f

  -- what is of the past passes it
  passes : (x : ℕ) → IsNeeded chart f x → needed x ≡ true
  unfolding is_needed_by
  passes x h = elim h [
    | inl same ↦ or_left (eqb x f) (order x f) (eq-eqb x f same)
    | inr link ↦ or_right (eqb x f) (order x f) (told.complete x f link)
  ]

  -- and an event that passes it is of the past
  is_needed : (x : ℕ) → x < length chart.events → needed x ≡ true → IsNeeded chart f x
  unfolding is_needed_by
  is_needed x known h = elim (or_cases (eqb x f) (order x f) h) [
    | inl same ↦ inl (eqb-true x f same)
    | inr before ↦ inr (told.holds x f known below before)
  ]

  -- what is held by the test is held
  held_of_test : (s : ℕ) → is_held chart needed s ≡ true → IsHeldFor chart f s
  held_of_test s h =
      let held = held_parts chart needed s h in
      (held.0, is_needed s (output_below chart.events s held.0) held.1, λ there. clash (passes _ there) held.2)

  -- and the other way round
  test_of_held : (s : ℕ) → IsHeldFor chart f s → is_held chart needed s ≡ true
  test_of_held s h =
      let known = is_wired.matched.in_range s (output_below chart.events s h.0) in
      held_from chart needed s h.0 (passes s h.1) (false_from_ne_true _ (λ there. h.2 (is_needed _ known there)))

  -- what is passed on by the test is taken
  taken_of_test : (s : ℕ) → is_passed_on chart needed s ≡ true → IsTakenFor chart f s
  taken_of_test s h =
      let passed = passed_on_parts chart needed s h in
      let known = output_below chart.events s passed.0 in
      (passed.0, is_needed s known passed.1, is_needed _ (is_wired.matched.in_range s known) passed.2)

  -- and the other way round
  test_of_taken : (s : ℕ) → IsTakenFor chart f s → is_passed_on chart needed s ≡ true
  test_of_taken s h = passed_on_from chart needed s h.0 (passes s h.1) (passes _ h.2)

  -- what may come inside the past may come for f
  for_of_inside : (past : List ℕ) (x : ℕ) → MayComeInside chart needed past x → MayComeFor chart f past x
  for_of_inside past x h = record {
    may = h.may;
    needed = is_needed x h.may.event h.member;
    ready = λ waits. clash (h.patient (test_of_held x waits.0) waits.1.0 (test_of_taken waits.1.0 waits.1.1) waits.1.2) waits.1.3;
  }

  -- and the other way round
  inside_of_for : (past : List ℕ) (x : ℕ) → MayComeFor chart f past x → MayComeInside chart needed past x
  inside_of_for past x h = record {
    may = h.may;
    member = passes x h.needed;
    patient = λ held t passed same. by_test (occurs past t) (λ there. there)
        (λ out. absurd (h.ready (held_of_test x held, (t, taken_of_test t passed, same, out))));
  }

  -- so it can be told
  for_decided : (past : List ℕ) (x : ℕ) → MayComeFor chart f past x ⊎ (MayComeFor chart f past x → ⊥)
  for_decided past x = elim (inside_decided chart past needed x) [
    | inl h ↦ inl (for_of_inside past x h)
    | inr never ↦ inr (λ h. never (inside_of_for past x h))
  ]

  -- the steps go on until nothing comes next
  abbrev CanEnd : Type 0
  CanEnd = (events : List ℕ) × Steps (IsShortNext chart f) [] events × ((y : ℕ) → MayComeFor chart f events y → ⊥)

  -- since each event leaves fewer
  ends_from : (fuel : ℕ) (past : List ℕ) → count_below (is_left everything past) (length chart.events) ≤ fuel
      → Steps (IsShortNext chart f) [] past → CanEnd
  ends_from zero past enough steps = (
    past,
    steps,
    λ y h.
        let some = left_counted everything past (length chart.events) y h.may.event refl h.may.new in
        let none : ⊥ = omega arith in none,
  )
  ends_from (suc fuel) past enough steps =
      elim (least_below (MayComeFor chart f past) (for_decided past) (length chart.events)) [
        | inr none ↦ (past, steps, λ y h. none y h.may.event h)
        | inl found ↦
            let x : ℕ = found.0 in
            let may = found.1.itself.may in
            let less = left_less everything past (length chart.events) x may.event refl may.new in
            ends_from fuel (past ++ x ∷ []) (omega arith) (Steps-push (IsShortNext chart f) past x steps found.1)
      ]

  -- and so there is a short witness
  short_from : (e : ℕ) → e < length chart.events → IsAcyclic chart.events → CanEnd → (events : List ℕ) × IsShortWitness chart e f events
  short_from e e_below acyclic end =
      by_test (occurs end.0 f)
      (λ there. (end.0, inl (end.1, all_needed chart is_wired end.0 (short_steps chart f end.0 end.1) f there)))
      (λ out.
      let witness = witness_exists chart is_wired acyclic e e_below in
      (_, inr (never_needed chart f end.0 end.1 (λ x next. end.2 x next.itself) out, (witness.0, witness.1, refl))))

module _ (chart : WiredChart) (is_wired : IsWired chart) (acyclic : IsAcyclic chart.events) where
  -- Two events have a short witness.
  pub short_exists : (e f : ℕ) → e < length chart.events → f < length chart.events → (events : List ℕ) × IsShortWitness chart e f events
  short_exists e f e_below f_below =
      let table = enforced_order chart is_wired in
      let fuel : ℕ = count_below (is_left everything []) (length chart.events) in
      short_from chart is_wired f f_below table.0 table.1 e e_below acyclic
      (ends_from chart is_wired f f_below table.0 table.1 fuel [] (le_refl fuel) tt)
