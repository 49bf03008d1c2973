-- A run is whole exactly if it has as many events as the chart.
use Rattle.std.proofs.Common.{◌≡◌, ℕ, zero, suc, ◌<◌, true, false, List, [], ◌∷◌, ◌++◌, length, inl, inr, refl, ◌∙◌, subst, sym, arith}
use Rattle.std.proofs.lemmas.Bool.{cases_eq, false_from_ne_true}
use Rattle.std.proofs.lemmas.List.{length_push}
use Rattle.msc_chart.specs.Lists.{occurs, IsOnce}
use Rattle.msc_chart.specs.Orders.{WiredChart}
use Rattle.msc_chart.specs.Runs.{Run, MayCome, IsWhole}
use Rattle.msc_race.proofs.Pasts.Pigeons.{no_longer}
use Rattle.msc_ready.proofs.Shared.{by_test, occurs-left, occurs-push, occurs_other, Steps-map, Steps-push, step_at}

-- the numbers below n
numbers : ℕ → List ℕ
numbers zero = []
numbers (suc n) = numbers n ++ n ∷ []

-- there are n of them
length-numbers : (n : ℕ) → length (numbers n) ≡ n
unfolding numbers
length-numbers zero = refl
length-numbers (suc n) = let e = length_push (numbers n) n in let h = length-numbers n in omega arith

-- each number below n is one of them
numbers_have : (n x : ℕ) → x < n → occurs (numbers n) x ≡ true
unfolding numbers
numbers_have zero x below = absurd (omega (arith, below))
numbers_have (suc n) x below = elim (cases_eq x n) [
  | inl same ↦ subst (λ (z : ℕ). occurs (numbers n ++ n ∷ []) z ≡ true) (sym same) (occurs-push (numbers n) n)
  | inr other ↦ occurs-left (numbers n) (n ∷ []) x (numbers_have n x (omega (arith, below, other)))
]

-- and no other is
numbers_are : (n x : ℕ) → occurs (numbers n) x ≡ true → x < n
unfolding numbers occurs
numbers_are zero x there = cc
numbers_are (suc n) x there = elim (cases_eq x n) [
  | inl same ↦ omega (arith, same)
  | inr other ↦
      let h = numbers_are n x (sym (occurs_other (numbers n) n x other) ∙ there) in
      omega (arith, h)
]

-- each is there once
numbers_once : (n : ℕ) → IsOnce (numbers n)
unfolding numbers
numbers_once zero = tt
numbers_once (suc n) =
    Steps-push (λ past x. occurs past x ≡ false) (numbers n) n (numbers_once n)
    (false_from_ne_true _ (λ there. let h = numbers_are n n there in omega (arith, h)))

module _ (chart : WiredChart) (run : List ℕ) (is_run : Run chart run) where
  -- a run has each event once
  once : IsOnce run
  once = Steps-map (MayCome chart) (λ past x. occurs past x ≡ false) (λ past x may. may.new) [] run is_run

  -- and events alone
  known : (x : ℕ) → occurs run x ≡ true → x < length chart.events
  known x there = (step_at (MayCome chart) run x is_run there).1.event

  -- a run that has as many events as the chart has them all: with one more it would have too many
  pub whole_if_all : length run ≡ length chart.events → IsWhole chart run
  whole_if_all all e below = by_test (occurs run e) (λ there. there) (λ new.
      let longer : IsOnce (run ++ e ∷ []) = Steps-push (λ past x. occurs past x ≡ false) run e once new in
      let few = no_longer (run ++ e ∷ []) (numbers (length chart.events)) longer (λ x there. elim (cases_eq x e) [
        | inl same ↦ numbers_have _ x (omega (arith, same, below))
        | inr other ↦ numbers_have _ x (known x (sym (occurs_other run e x other) ∙ there))
      ]) in
      absurd (omega (arith, few, all, length_push run e, length-numbers (length chart.events))))

  -- and a whole run has as many
  pub all_if_whole : IsWhole chart run → length run ≡ length chart.events
  all_if_whole whole =
      let few = no_longer run (numbers (length chart.events)) once (λ x there. numbers_have _ x (known x there)) in
      let many = no_longer (numbers (length chart.events)) run (numbers_once _) (λ x there. whole x (numbers_are _ x there)) in
      omega (arith, few, many, length-numbers (length chart.events))
