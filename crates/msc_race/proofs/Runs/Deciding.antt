-- Whether an event may come next can be told, so where one may there is a least that may.
use Rattle.std.proofs.Common.{◌≡◌, ℕ, zero, suc, ◌<◌, Bool, true, false, ◌&&◌, not, ◌⊎◌, inl, inr, List, [], ◌∷◌, length, subst, arith}
use Rattle.std.proofs.lemmas.Bool.{cases_lt, cases_eq, and_parts, and_from, not-true, not_from_false}
use Rattle.std.proofs.Math.Nat.{le_refl}
use Rattle.msc_chart.specs.Lists.{occurs, IsFirst, IsLeast}
use Rattle.msc_chart.specs.Charts.{partner, is_input, is_controlled, before}
use Rattle.msc_chart.specs.Orders.{WiredChart, queue}
use Rattle.msc_chart.specs.Runs.{MayCome, state}
use Rattle.msc_race.proofs.Shared.{by_test, clash, find_below}
use Rattle.msc_race.proofs.Runs.EventLemmas.{controlled_or_input, controlled_no_input, before_parts}
use Rattle.msc_race.proofs.Runs.Inside.{is_held, MayComeInside, passed_on_decided}

-- each number has a property, or does not have it
abbrev IsDecided : (ℕ → Type 0) → Type 0
IsDecided P = (x : ℕ) → P x ⊎ (P x → ⊥)

-- there is a least number with a property that can be told, or no number below a bound has it
pub least_below : (P : ℕ → Type 0) → IsDecided P → (n : ℕ)
    → ((x : ℕ) × IsLeast P x) ⊎ ((x : ℕ) → x < n → P x → ⊥)
least_below P told zero = inr (λ x below h. omega arith)
least_below P told (suc n) =
    elim (least_below P told n) [
      | inl found ↦ inl found
      | inr none ↦ elim (told n) [
        | inl h ↦ inl (n, record { itself = h; none_below = none })
        | inr h ↦ inr (λ x below k. elim (cases_lt x n) [
          | inl lt ↦ none x lt k
          | inr ge ↦ let same : x ≡ n = omega arith in h (subst P same k)
        ])
      ]
    ]

-- so there is a least where there is one
pub least_of : (P : ℕ → Type 0) → IsDecided P → (x : ℕ) → P x → (y : ℕ) × IsLeast P y
least_of P told x h =
    elim (least_below P told (suc x)) [ inl found ↦ found | inr none ↦ absurd (none x (le_refl (suc x)) h) ]

-- a number is the first of a list, or is not
first_decided : (xs : List ℕ) → IsDecided (IsFirst xs)
first_decided [] s = inr (λ h. h)
first_decided (x ∷ xs) s = cases_eq x s

module _ (chart : WiredChart) (past : List ℕ) where
  -- what is drawn before an event has occurred, or something has not
  drawn_decided : (x : ℕ) → ((y : ℕ) → before chart.events y x ≡ true → occurs past y ≡ true)
      ⊎ ((y : ℕ) × (before chart.events y x ≡ true) × (occurs past y ≡ false))
  drawn_decided x =
      elim (find_below (λ y. before chart.events y x && not (occurs past y)) (length chart.events)) [
        | inl found ↦ let both = and_parts _ _ found.2 in inr (found.0, both.0, not-true _ both.1)
        | inr none ↦ inl (λ y drawn. by_test (occurs past y) (λ there. there)
            (λ out.
            clash (and_from _ _ drawn (not_from_false _ out)) (none y (before_parts chart.events y x drawn).0)))
      ]

  -- an event may come next, or may not
  pub may_decided : IsDecided (MayCome chart past)
  may_decided x =
      elim (cases_lt x (length chart.events)) [
        | inr ge ↦ inr (λ may. let h : x < length chart.events = may.event in omega arith)
        | inl below ↦ by_test (occurs past x)
            (λ old. inr (λ may. clash old may.new))
            (λ new. elim (controlled_or_input chart.events x below) [
              | inl o ↦ elim (drawn_decided x) [
                | inl all ↦
                    let no_input = λ (i : is_input chart.events x ≡ true). absurd (controlled_no_input chart.events x o i) in
                    inl (record { event = below; new = new; controlled = λ again. all; input = no_input })
                | inr some ↦ inr (λ may. clash (may.controlled o some.0 some.1) some.2)
              ]
              | inr i ↦ elim (first_decided (state chart (queue chart x) past) (partner chart.events x)) [
                | inl first ↦
                    let free = λ (o : is_controlled chart.events x ≡ true). absurd (controlled_no_input chart.events x o i) in
                    inl (record { event = below; new = new; controlled = free; input = λ again. first })
                | inr other ↦ inr (λ may. other (may.input i))
              ]
            ])
      ]

  -- an event of a set may come next inside it, or may not
  pub inside_decided : (inside : ℕ → Bool) → IsDecided (MayComeInside chart inside past)
  inside_decided inside x =
      elim (may_decided x) [
        | inr never ↦ inr (λ h. never h.may)
        | inl may ↦ by_test (inside x)
            (λ member. by_test (is_held chart inside x)
            (λ held. elim (passed_on_decided chart inside past x) [
              | inl some ↦ inr (λ h. clash (h.patient held some.0 some.1 some.2) some.3)
              | inr all ↦ inl (record { may = may; member = member; patient = λ again. all })
            ])
            (λ free. inl (record { may = may; member = member; patient = λ held. clash held free })))
            (λ out. inr (λ h. clash h.member out))
      ]
