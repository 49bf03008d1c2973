-- Runs that stay in a set of events. The set is given by a test.
use Rattle.std.proofs.Common.{◌≡◌, ℕ, ◌<◌, Bool, true, false, ◌&&◌, not, ◌⊎◌, inl, inr, List, [], length, eqb}
use Rattle.std.specs.Prelude.{IsTrue}
use Rattle.std.proofs.lemmas.Bool.{eqb-true, eq-eqb, and_parts, and_from, not-true, not_from_false}
use Rattle.msc_chart.specs.Lists.{occurs, Steps}
use Rattle.msc_chart.specs.Charts.{partner, is_output}
use Rattle.msc_chart.specs.Orders.{WiredChart, queue}
use Rattle.msc_chart.specs.Runs.{Run, MayCome}
use Rattle.msc_race.proofs.Shared.{by_test, clash, find_below, Steps-map}
use Rattle.msc_race.proofs.Runs.EventLemmas.{output_below}

module _ (chart : WiredChart) (inside : ℕ → Bool) where
  -- an output of the set whose input is not in the set
  unfoldable pub is_held : ℕ → Bool
  is_held s = (is_output chart.events s && inside s) && not (inside (partner chart.events s))

  -- an output of the set whose input is in the set too
  unfoldable pub is_passed_on : ℕ → Bool
  is_passed_on s = (is_output chart.events s && inside s) && inside (partner chart.events s)

  -- what makes an output held
  pub held_from : (s : ℕ) → is_output chart.events s ≡ true → inside s ≡ true
      → inside (partner chart.events s) ≡ false → is_held s ≡ true
  unfolding is_held
  held_from s o member out = and_from _ _ (and_from _ _ o member) (not_from_false _ out)

  -- and what is known of it
  pub held_parts : (s : ℕ) → is_held s ≡ true
      → (is_output chart.events s ≡ true) × (inside s ≡ true) × (inside (partner chart.events s) ≡ false)
  unfolding is_held
  held_parts s h =
      let both = and_parts _ _ h in
      let own = and_parts _ _ both.0 in
      (own.0, own.1, not-true _ both.1)

  -- what makes an output one that is passed on
  pub passed_on_from : (s : ℕ) → is_output chart.events s ≡ true → inside s ≡ true
      → inside (partner chart.events s) ≡ true → is_passed_on s ≡ true
  unfolding is_passed_on
  passed_on_from s o member there = and_from _ _ (and_from _ _ o member) there

  -- and what is known of it
  pub passed_on_parts : (s : ℕ) → is_passed_on s ≡ true
      → (is_output chart.events s ≡ true) × (inside s ≡ true) × (inside (partner chart.events s) ≡ true)
  unfolding is_passed_on
  passed_on_parts s h =
      let both = and_parts _ _ h in
      let own = and_parts _ _ both.0 in
      (own.0, own.1, both.1)

  -- After these events x, of the set, may come next; and if it is held, all outputs of its queue that
  -- are passed on have occurred.
  pub record MayComeInside (past : List ℕ) (x : ℕ) : Type 0 where
    pub may : MayCome chart past x
    pub member : IsTrue (inside x)
    pub patient : IsTrue (is_held x) → (t : ℕ) → IsTrue (is_passed_on t)
        → queue chart t ≡ queue chart x → IsTrue (occurs past t)

  -- an event of the set has not occurred yet
  abbrev pub SomeLeft : List ℕ → Type 0
  SomeLeft past = (x : ℕ) × (x < length chart.events) × IsTrue (inside x) × (occurs past x ≡ false)

  -- a run inside the set is a run
  pub run_inside : (past : List ℕ) → Steps MayComeInside [] past → Run chart past
  run_inside past steps = Steps-map MayComeInside (MayCome chart) (λ before x h. h.may) [] past steps

  -- some output of x's queue that is passed on has not occurred, or all of them have
  pub passed_on_decided : (past : List ℕ) (x : ℕ)
      → ((t : ℕ) × (is_passed_on t ≡ true) × (queue chart t ≡ queue chart x) × (occurs past t ≡ false))
      ⊎ ((t : ℕ) → is_passed_on t ≡ true → queue chart t ≡ queue chart x → occurs past t ≡ true)
  passed_on_decided past x =
      let waits_for : ℕ → Bool = λ t. (is_passed_on t && eqb (queue chart t) (queue chart x)) && not (occurs past t) in
      elim (find_below waits_for (length chart.events)) [
        | inl found ↦
            let both = and_parts _ _ found.2 in
            let mate = and_parts _ _ both.0 in
            inl (found.0, mate.0, eqb-true _ _ mate.1, not-true _ both.1)
        | inr none ↦ inr (λ t passed same. by_test (occurs past t) (λ there. there)
            (λ out. clash (and_from _ _ (and_from _ _ passed (eq-eqb _ _ same)) (not_from_false _ out))
            (none t (output_below chart.events t (passed_on_parts t passed).0))))
      ]
