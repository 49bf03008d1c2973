-- What is written of races, as they come.
use Rattle.std.proofs.Common.{◌≡◌, suc, ℕ, ◌+◌, ◌-◌, ◌≤◌, Bool, List, [], ◌∷◌, ◌++◌, take, inl, inr, refl, ap, arith}
use Rattle.std.specs.List.{flat_map}
use Rattle.std.proofs.lemmas.Bool.{cases_lt, le-ltb, lt-ltb}
use Rattle.std.proofs.Math.Seq.{take-nil}
use Rattle.msc_reason.specs.declared.cause.Cause.{Cause}
use Rattle.msc_judge.specs.Findings.{finding_of, findings_from}
use Rattle.msc_judge.specs.Telling.{told_from}
use Rattle.msc_judge.specs.declared.renderer.Finding.{Finding}

module _ (text : ℕ → ℕ × ℕ → List ℕ) (most : ℕ) where
  -- past the first nothing is
  pub told_past : (n : ℕ) (xs : List (ℕ × ℕ)) → most ≤ n → told_from text most n xs ≡ []
  told_past n [] past = refl
  told_past n (x ∷ xs) past = rw (le-ltb n most past, told_past (n + 1) xs (omega (arith, past))) refl

-- what is written of all of them is what is written of the first as findings
pub told_all : (text : Finding → List ℕ) (why : Bool) (causes : ℕ → ℕ → Cause) (most n : ℕ) (xs : List (ℕ × ℕ))
    → told_from (λ m p. text (finding_of why causes m p)) most n xs ≡ flat_map text (take (most - n) (findings_from why causes n xs))
told_all text why causes most n [] = rw (take-nil (most - n)) refl
told_all text why causes most n (x ∷ xs) = elim (cases_lt n most) [
  | inl less ↦
      let more : most - n ≡ suc (most - (n + 1)) = omega (arith, less) in
      rw (lt-ltb n most less, more) (ap (λ (t : List ℕ). text (finding_of why causes n x) ++ t) (told_all text why causes most (n + 1) xs))
  | inr past ↦
      let none : most - n ≡ 0 = omega (arith, past) in
      rw (none) (told_past (λ m p. text (finding_of why causes m p)) most n (x ∷ xs) past)
]
