-- What is free by a test is free, and the other way round; so are the events that may come free,
-- and what is held, passed on and left.
use Rattle.std.proofs.Common.{◌≡◌, ℕ, ◌<◌, Bool, true, List, length}
use Rattle.std.proofs.lemmas.Bool.{false_from_ne_true}
use Rattle.msc_chart.specs.Lists.{occurs, IsLeast}
use Rattle.msc_chart.specs.Orders.{WiredChart, IsEnforcedOrder}
use Rattle.msc_chart.specs.Witness.{IsFree, IsHeld, IsPassedOn, MayComeFree, SomeFreeLeft}
use Rattle.msc_race.proofs.Shared.{by_test, clash}
use Rattle.msc_race.proofs.Runs.Inside.{is_held, is_passed_on, held_from, held_parts, passed_on_from, passed_on_parts, MayComeInside, SomeLeft}
use Rattle.msc_race.proofs.Runs.FreeEvents.{is_free_of, free_of_test, test_of_free}

module _ (chart : WiredChart) (order : ℕ → ℕ → Bool) (told : IsEnforcedOrder chart order) (e : ℕ)
    (below : e < length chart.events) where
  -- the test for the events that are free of e
  abbrev free : ℕ → Bool
  free = is_free_of chart order e

  -- a free event passes it
  passes : (x : ℕ) → IsFree chart e x → free x ≡ true
  passes x h = test_of_free chart order told e below x h.0 h.1 h.2

  -- and what passes it is free
  is_free : (x : ℕ) → free x ≡ true → IsFree chart e x
  is_free x h = free_of_test chart order told e x h

  -- what is held by the test is held
  held_of_test : (s : ℕ) → is_held chart free s ≡ true → IsHeld chart e s
  held_of_test s h =
      let held = held_parts chart free s h in
      (held.0, is_free s held.1, λ there. clash (passes _ there) held.2)

  -- what is held is held by the test
  pub test_of_held : (s : ℕ) → IsHeld chart e s → is_held chart free s ≡ true
  test_of_held s h =
      held_from chart free s h.0 (passes s h.1) (false_from_ne_true _ (λ there. h.2 (is_free _ there)))

  -- what is passed on by the test is passed on
  passed_of_test : (s : ℕ) → is_passed_on chart free s ≡ true → IsPassedOn chart e s
  passed_of_test s h =
      let passed = passed_on_parts chart free s h in
      (passed.0, is_free s passed.1, is_free _ passed.2)

  -- what is passed on is passed on by the test
  test_of_passed : (s : ℕ) → IsPassedOn chart e s → is_passed_on chart free s ≡ true
  test_of_passed s h = passed_on_from chart free s h.0 (passes s h.1) (passes _ h.2)

  -- what may come inside the set may come free
  pub free_of_inside : (past : List ℕ) (x : ℕ) → MayComeInside chart free past x
      → MayComeFree chart e past x
  free_of_inside past x h = record {
    may = h.may;
    free = is_free x h.member;
    ready = λ waits.
        let passed = test_of_passed waits.1.0 waits.1.1 in
        clash (h.patient (test_of_held x waits.0) waits.1.0 passed waits.1.2) waits.1.3;
  }

  -- what may come free may come inside the set
  pub inside_of_free : (past : List ℕ) (x : ℕ) → MayComeFree chart e past x
      → MayComeInside chart free past x
  inside_of_free past x h = record {
    may = h.may;
    member = passes x h.free;
    patient = λ held t passed same. by_test (occurs past t) (λ there. there)
        (λ out. absurd (h.ready (held_of_test x held, (t, passed_of_test t passed, same, out))));
  }

  -- so the least are the same
  pub least_free : (past : List ℕ) (x : ℕ) → IsLeast (MayComeInside chart free past) x
      → IsLeast (MayComeFree chart e past) x
  least_free past x h = record {
    itself = free_of_inside past x h.itself;
    none_below = λ y lt k. h.none_below y lt (inside_of_free past y k);
  }

  -- a free event that is left is one of the set
  pub left_of_free : (past : List ℕ) → SomeFreeLeft chart e past → SomeLeft chart free past
  left_of_free past some = (some.0, some.1.0, passes some.0 some.1, some.2)

  -- and the other way round
  pub free_of_left : (past : List ℕ) → SomeLeft chart free past → SomeFreeLeft chart e past
  free_of_left past some = (some.0, is_free some.0 some.2, some.3)
