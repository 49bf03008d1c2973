-- Numbers that stay where they pass the limit, added and multiplied.
use Rattle.std.proofs.Common.{◌≡◌, ◌<◌, ◌≤◌, ℕ, zero, suc, ◌+◌, ◌*◌, ◌⊎◌, inl, inr, sym, ap, ◌∙◌, arith}
use Rattle.std.proofs.Math.Nat.{le-mul_of_pos_right, mul-zero, mul_comm}
use Rattle.std.proofs.lemmas.Bool.{cases_lt}
use Rattle.std.proofs.lemmas.Bool.Decides.{nat_tests}
use Rattle.msc_scenarios.specs.declared.TheConstants.{SCENARIO_LIMIT}
use Rattle.msc_scenarios.specs.Counting.{capped, plus, times}

-- no further than the limit, and beyond it
module _ (n : ℕ) where
  within : n ≤ SCENARIO_LIMIT → capped n ≡ n
  within h = grind (arith, nat_tests)

  beyond : SCENARIO_LIMIT < n → capped n ≡ SCENARIO_LIMIT + 1
  beyond h = grind (arith, nat_tests)

-- what is capped needn't be capped before
pub plus_capped : (m n : ℕ) → plus (capped m) (capped n) ≡ capped (m + n)
plus_capped m n = grind (arith, nat_tests)

module _ (n : ℕ) where
  capped_big : SCENARIO_LIMIT < n → SCENARIO_LIMIT < capped n
  capped_big h = grind (arith, nat_tests)

  capped_some : 0 < n → 0 < capped n
  capped_some h = grind (arith, nat_tests)

-- a product of one that is beyond the limit is beyond it, if the other is some
over : (m n : ℕ) → SCENARIO_LIMIT < m → 0 < n → capped (m * n) ≡ SCENARIO_LIMIT + 1
over m n h some = beyond (m * n) (omega (arith, h, le-mul_of_pos_right m some))

big_times : (m n : ℕ) → SCENARIO_LIMIT < m → times (capped m) (capped n) ≡ capped (m * n)
big_times m zero h = ap capped (mul-zero (capped m)) ∙ ap capped (sym (mul-zero m))
big_times m (suc n) h =
    over (capped m) (capped (suc n)) (capped_big m h) (capped_some (suc n) (omega arith)) ∙ sym (over m (suc n) h (omega arith))

small_times : (m n : ℕ) → m ≤ SCENARIO_LIMIT → (SCENARIO_LIMIT < n) ⊎ (n ≤ SCENARIO_LIMIT) → times (capped m) (capped n) ≡ capped (m * n)
small_times m n h (inl i) = ap capped (mul_comm (capped m) (capped n)) ∙ big_times n m i ∙ ap capped (mul_comm n m)
small_times m n h (inr i) = ap (λ x. capped (x * capped n)) (within m h) ∙ ap (λ x. capped (m * x)) (within n i)

times_by : (m n : ℕ) → (SCENARIO_LIMIT < m) ⊎ (m ≤ SCENARIO_LIMIT) → times (capped m) (capped n) ≡ capped (m * n)
times_by m n (inl h) = big_times m n h
times_by m n (inr h) = small_times m n h (cases_lt SCENARIO_LIMIT n)

pub times_capped : (m n : ℕ) → times (capped m) (capped n) ≡ capped (m * n)
times_capped m n = times_by m n (cases_lt SCENARIO_LIMIT m)
