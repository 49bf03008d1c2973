-- Steps of a kind that go on while something of a set is left reach all of the set, and steps that can
-- be told reach an end.
use Rattle.std.proofs.Common.{◌≡◌, ℕ, zero, suc, ◌<◌, ◌≤◌, Bool, true, false, ◌⊎◌, inl, inr, List, [], ◌∷◌, ◌++◌, refl, subst, append_assoc, arith}
use Rattle.std.proofs.lemmas.Bool.{cases_lt}
use Rattle.std.proofs.lemmas.List.{append-nil}
use Rattle.std.proofs.Math.Nat.{le_refl}
use Rattle.msc_chart.specs.Lists.{occurs, Steps}
use Rattle.msc_ready.proofs.Shared.{by_test, clash, count_below, count-less, find_below, Steps-push, is_left, left_from, left_parts, left_less}

-- the set of all events
abbrev pub everything : ℕ → Bool
everything x = true

-- what is left is counted
left_counted : (past : List ℕ) (n x : ℕ) → x < n → occurs past x ≡ false
    → 0 < count_below (is_left everything past) n
left_counted past n x below out =
    let none : ℕ → Bool = λ k. false in
    let less : count_below none n < count_below (is_left everything past) n =
    count-less (is_left everything past) none n x (λ k lt h. clash h refl) below
    (left_from everything past x refl out) refl in
    omega arith

-- a step is of a number below n that is new
abbrev pub AreNew : (List ℕ → ℕ → Type 0) → ℕ → Type 0
AreNew May n = (past : List ℕ) (x : ℕ) → May past x → (x < n) × (occurs past x ≡ false)

-- each number has a property, or does not have it
abbrev pub IsDecided : (ℕ → Type 0) → Type 0
IsDecided P = (x : ℕ) → P x ⊎ (P x → ⊥)

-- some number below a bound has a property that can be told, or none has it
pub some_or_none : (P : ℕ → Type 0) → IsDecided P → (n : ℕ)
    → ((x : ℕ) × P x) ⊎ ((x : ℕ) → x < n → P x → ⊥)
some_or_none P told zero = inr (λ x below h. omega arith)
some_or_none P told (suc n) =
    elim (some_or_none P told n) [
      | inl found ↦ inl found
      | inr none ↦ elim (told n) [
        | inl h ↦ inl (n, h)
        | inr h ↦ inr (λ x below k. elim (cases_lt x n) [
          | inl lt ↦ none x lt k
          | inr ge ↦ let same : x ≡ n = omega arith in h (subst P same k)
        ])
      ]
    ]

module _ (May : List ℕ → ℕ → Type 0) (n : ℕ) (new : AreNew May n) where
  -- one more step leaves less
  one_less : (past : List ℕ) (x : ℕ) → May past x
      → count_below (is_left everything (past ++ x ∷ [])) n < count_below (is_left everything past) n
  one_less past x may = left_less everything past n x (new past x may).0 refl (new past x may).1

  -- the steps go on to all of a set
  abbrev pub ReachesAll : (ℕ → Bool) → List ℕ → Type 0
  ReachesAll inside past =
      (rest : List ℕ) × Steps May [] (past ++ rest)
      × ((x : ℕ) → x < n → inside x ≡ true → occurs (past ++ rest) x ≡ true)

  module _ (inside : ℕ → Bool) (on : (past : List ℕ) → Steps May [] past → (g : ℕ) → g < n → inside g ≡ true
      → occurs past g ≡ false → (x : ℕ) × May past x) where
    -- while something of the set is left there is a step, and each step leaves less
    reach : (fuel : ℕ) (past : List ℕ) → count_below (is_left everything past) n ≤ fuel
        → Steps May [] past → ReachesAll inside past
    reach zero past enough steps = (
      [],
      rw append-nil steps,
      λ x below member. rw append-nil (by_test (occurs past x) (λ there. there)
          (λ out. let some = left_counted past n x below out in let h : ⊥ = omega arith in absurd h)),
    )
    reach (suc fuel) past enough steps =
        elim (find_below (is_left inside past) n) [
          | inr none ↦ (
            [],
            rw append-nil steps,
            λ x below member. rw append-nil (by_test (occurs past x) (λ there. there)
                (λ out. clash (left_from inside past x member out) (none x below))),
          )
          | inl found ↦
              let f_left = left_parts inside past found.0 found.2 in
              let next = on past steps found.0 found.1 f_left.0 f_left.1 in
              let x : ℕ = next.0 in
              let less = one_less past x next.1 in
              let more = reach fuel (past ++ x ∷ []) (omega arith) (Steps-push May past x steps next.1) in
              let both = subst (λ (l : List ℕ). Steps May [] l × ((y : ℕ) → y < n → inside y ≡ true → occurs l y ≡ true))
              (append_assoc past (x ∷ []) more.0) (more.1, more.2) in
              (x ∷ more.0, both.0, both.1)
        ]

    -- so all of the set is reached
    pub reach_all : (past : List ℕ) → Steps May [] past → ReachesAll inside past
    reach_all past steps = reach (count_below (is_left everything past) n) past (le_refl _) steps

  -- the steps go on to an end, after which there is none
  abbrev pub ReachesEnd : List ℕ → Type 0
  ReachesEnd past =
      (rest : List ℕ) × Steps May [] (past ++ rest) × ((x : ℕ) → May (past ++ rest) x → ⊥)

  module _ (told : (past : List ℕ) → IsDecided (May past)) where
    -- where there is a step it is taken
    end_by : (fuel : ℕ) (past : List ℕ) → count_below (is_left everything past) n ≤ fuel
        → Steps May [] past → ReachesEnd past
    end_by zero past enough steps = (
      [],
      rw append-nil steps,
      λ x. rw append-nil (λ may. let some = left_counted past n x (new past x may).0 (new past x may).1 in omega arith),
    )
    end_by (suc fuel) past enough steps =
        elim (some_or_none (May past) (told past) n) [
          | inr none ↦ ([], rw append-nil steps, λ x. rw append-nil (λ may. none x (new past x may).0 may))
          | inl next ↦
              let x : ℕ = next.0 in
              let less = one_less past x next.1 in
              let more = end_by fuel (past ++ x ∷ []) (omega arith) (Steps-push May past x steps next.1) in
              let both = subst (λ (l : List ℕ). Steps May [] l × ((y : ℕ) → May l y → ⊥))
              (append_assoc past (x ∷ []) more.0) (more.1, more.2) in
              (x ∷ more.0, both.0, both.1)
        ]

    -- so an end is reached
    pub reach_end : (past : List ℕ) → Steps May [] past → ReachesEnd past
    reach_end past steps = end_by (count_below (is_left everything past) n) past (le_refl _) steps
