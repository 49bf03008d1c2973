-- A run inside a set of events that can go first goes on to one with all of the set.
use Rattle.std.proofs.Common.{◌≡◌, ℕ, zero, suc, ◌<◌, ◌≤◌, Bool, true, false, inl, inr, List, [], ◌∷◌, ◌++◌, length, refl, subst, append_assoc, arith}
use Rattle.std.proofs.lemmas.List.{append-nil}
use Rattle.msc_chart.specs.Lists.{occurs, Steps}
use Rattle.msc_chart.specs.Orders.{WiredChart, IsWired}
use Rattle.msc_race.proofs.Shared.{by_test, clash, count_below, count-less, find_below, Steps-push}
use Rattle.msc_chart.proofs.Left.{is_left, left_from, left_less, left_parts}
use Rattle.msc_race.proofs.Runs.Inside.{MayComeInside}
use Rattle.msc_race.proofs.Runs.Progress.{CanGoFirst, progress}

-- what is left is counted
pub left_counted : (inside : ℕ → Bool) (past : List ℕ) (n x : ℕ) → x < n → inside x ≡ true
    → occurs past x ≡ false
    → 0 < count_below (is_left inside past) n
left_counted inside past n x below member out =
    let none : ℕ → Bool = λ k. false in
    let less : count_below none n < count_below (is_left inside past) n =
    count-less (is_left inside past) none n x (λ k lt h. clash h refl) below
    (left_from inside past x member out) refl in
    omega arith

-- all events of the set are in the list
abbrev pub HasEachOf : WiredChart → (ℕ → Bool) → List ℕ → Type 0
HasEachOf chart inside events = (x : ℕ) → x < length chart.events → inside x ≡ true → occurs events x ≡ true

module _ (chart : WiredChart) (is_wired : IsWired chart) (inside : ℕ → Bool) (R : ℕ → ℕ → Type 0)
    (first : CanGoFirst chart inside R) where
  -- A run inside the set goes on to one with all of the set, since each event leaves less of it.
  pub all_of : (fuel : ℕ) (past : List ℕ)
      → count_below (is_left inside past) (length chart.events) ≤ fuel
      → Steps (MayComeInside chart inside) [] past
      → (rest : List ℕ) × Steps (MayComeInside chart inside) [] (past ++ rest) × HasEachOf chart inside (past ++ rest)
  all_of zero past enough steps = (
    [],
    rw append-nil steps,
    λ x below member. rw append-nil (by_test (occurs past x) (λ there. there)
        (λ out. let some = left_counted inside past (length chart.events) x below member out in
        let h : ⊥ = omega arith in absurd h)),
  )
  all_of (suc fuel) past enough steps =
      elim (find_below (is_left inside past) (length chart.events)) [
        | inr none ↦ (
          [],
          rw append-nil steps,
          λ x below member. rw append-nil (by_test (occurs past x) (λ there. there)
              (λ out. clash (left_from inside past x member out) (none x below))),
        )
        | inl found ↦
            let f_left = left_parts inside past found.0 found.2 in
            let next = progress chart is_wired inside R first past steps (found.0, found.1, f_left.0, f_left.1) in
            let x : ℕ = next.0 in
            let less = left_less inside past (length chart.events) x next.1.may.event next.1.member next.1.may.new in
            let further = Steps-push (MayComeInside chart inside) past x steps next.1 in
            let more = all_of fuel (past ++ x ∷ []) (omega arith) further in
            let both = subst (λ (l : List ℕ). Steps (MayComeInside chart inside) [] l × HasEachOf chart inside l)
            (append_assoc past (x ∷ []) more.0) (more.1, more.2) in
            (x ∷ more.0, both.0, both.1)
      ]
