-- What comes first, and what is known of it.
use Rattle.std.proofs.Common.{◌≡◌, ℕ, true, inl, inr, List}
use Rattle.std.proofs.lemmas.Bool.{eqb-true, eq-eqb, and_parts, and_from, or_cases, or_left, or_right}
use Rattle.msc_chart.specs.Orders.{WiredChart, queue}
use Rattle.msc_chart.specs.Charts.{partner, is_output}
use Rattle.msc_chart.specs.Lists.{occurs, until}
use Rattle.msc_gather.specs.Schedule.{log_of, crosses, is_taken_first, goes_first}

module _ (chart : WiredChart) (logs : List (List ℕ)) where
  -- an output crosses to its input
  pub crosses_sent : (x y : ℕ) → is_output chart.events x ≡ true → partner chart.events x ≡ y
      → crosses chart logs x y ≡ true
  unfolding crosses
  crosses_sent x y o p = or_left _ _ (and_from _ _ o (eq-eqb _ _ p))

  -- and an output to one of its queue that is taken later
  pub crosses_queued : (x y : ℕ) → is_output chart.events x ≡ true → is_output chart.events y ≡ true
      → queue chart x ≡ queue chart y
      → is_taken_first chart logs x y ≡ true → crosses chart logs x y ≡ true
  unfolding crosses
  crosses_queued x y o p same h = or_right _ _
      (and_from _ _ (and_from _ _ o p) (and_from _ _ (eq-eqb _ _ same) h))

  -- and nothing else crosses
  pub crosses_cases : {X : Type 0} (x y : ℕ) → crosses chart logs x y ≡ true
      → (is_output chart.events x ≡ true → partner chart.events x ≡ y → X)
      → (is_output chart.events x ≡ true → is_output chart.events y ≡ true
      → queue chart x ≡ queue chart y
      → is_taken_first chart logs x y ≡ true → X)
      → X
  unfolding crosses
  crosses_cases x y h g k =
      elim (or_cases _ _ h) [
        | inl c ↦ let p = and_parts _ _ c in g p.0 (eqb-true _ _ p.1)
        | inr d ↦
            let p = and_parts _ _ d in
            let o = and_parts _ _ p.0 in
            let q = and_parts _ _ p.1 in
            k o.0 o.1 (eqb-true _ _ q.0) q.1
      ]

  -- what stands earlier in the log comes first
  pub first_in_log : (x y : ℕ) → occurs (until (log_of chart logs y) y) x ≡ true
      → goes_first chart logs x y ≡ true
  unfolding goes_first
  first_in_log x y h = or_left _ _ h

  -- and so does what crosses: an output to its input
  pub first_sent : (x y : ℕ) → is_output chart.events x ≡ true → partner chart.events x ≡ y
      → goes_first chart logs x y ≡ true
  unfolding goes_first
  first_sent x y o p = or_right _ _ (crosses_sent x y o p)

  -- and of two outputs of a queue the one whose input is taken first
  pub first_queued : (x y : ℕ) → is_output chart.events x ≡ true → is_output chart.events y ≡ true
      → queue chart x ≡ queue chart y
      → is_taken_first chart logs x y ≡ true → goes_first chart logs x y ≡ true
  unfolding goes_first
  first_queued x y o p same h = or_right _ _ (crosses_queued x y o p same h)

  -- and nothing else comes first
  pub first_cases : {X : Type 0} (x y : ℕ) → goes_first chart logs x y ≡ true
      → (occurs (until (log_of chart logs y) y) x ≡ true → X)
      → (is_output chart.events x ≡ true → partner chart.events x ≡ y → X)
      → (is_output chart.events x ≡ true → is_output chart.events y ≡ true
      → queue chart x ≡ queue chart y
      → is_taken_first chart logs x y ≡ true → X)
      → X
  unfolding goes_first
  first_cases x y h f g k =
      elim (or_cases _ _ h) [ inl a ↦ f a | inr b ↦ crosses_cases x y b g k ]
