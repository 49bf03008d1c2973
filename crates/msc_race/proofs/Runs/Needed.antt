-- What has to come before what by a rule of one step, while some lines are ready.
use Rattle.std.proofs.Common.{◌≡◌, ℕ, Bool, true, ◌&&◌, ◌||◌, inl, inr, eqb}
use Rattle.std.proofs.lemmas.Bool.{eqb-true, eq-eqb, and_parts, and_from, or_cases, or_left, or_right}
use Rattle.msc_chart.specs.Charts.{line, partner, is_output, is_input, is_controlled, before}
use Rattle.msc_chart.specs.Orders.{WiredChart}

module _ (chart : WiredChart) (ready : ℕ → Bool) (x y : ℕ) where
  -- y waits for what is drawn before it: it is controlled, or an input of a ready line
  waits : Bool
  waits = is_controlled chart.events y || (is_input chart.events y && ready (line chart.events y))

  -- x has to come before y by a rule of a run: it is drawn before y, which waits for that, or it is the
  -- output of the input y
  pub is_needed : Bool
  is_needed = (before chart.events x y && waits) || (is_output chart.events x && eqb (partner chart.events x) y)

  -- what is drawn before a controlled event has to come before it
  pub needed_drawn : before chart.events x y ≡ true → is_controlled chart.events y ≡ true → is_needed ≡ true
  unfolding is_needed waits
  needed_drawn h o = or_left _ _ (and_from _ _ h (or_left _ _ o))

  -- and before an input of a ready line
  pub needed_awaited : before chart.events x y ≡ true → is_input chart.events y ≡ true
      → ready (line chart.events y) ≡ true → is_needed ≡ true
  unfolding is_needed waits
  needed_awaited h i l = or_left _ _ (and_from _ _ h (or_right _ _ (and_from _ _ i l)))

  -- an output has to come before its input
  pub needed_sent : is_output chart.events x ≡ true → partner chart.events x ≡ y → is_needed ≡ true
  unfolding is_needed
  needed_sent o same = or_right _ _ (and_from _ _ o (eq-eqb _ _ same))

  -- and there is no other case
  pub needed_cases : {X : Type 0} → is_needed ≡ true
      → (before chart.events x y ≡ true → is_controlled chart.events y ≡ true → X)
      → (before chart.events x y ≡ true → is_input chart.events y ≡ true → ready (line chart.events y) ≡ true → X)
      → (is_output chart.events x ≡ true → partner chart.events x ≡ y → X) → X
  unfolding is_needed waits
  needed_cases h by_drawn by_awaited by_sent =
      elim (or_cases _ _ h) [
        | inl a ↦
            let both = and_parts _ _ a in
            elim (or_cases _ _ both.1) [
              | inl o ↦ by_drawn both.0 o
              | inr i ↦ let own = and_parts _ _ i in by_awaited both.0 own.0 own.1
            ]
        | inr b ↦ let both = and_parts _ _ b in by_sent both.0 (eqb-true _ _ both.1)
      ]
