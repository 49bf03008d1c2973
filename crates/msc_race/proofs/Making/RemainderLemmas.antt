-- Rows that hold the events wider a property.
use Rattle.std.proofs.Common.{◌≡◌, ℕ, ◌+◌, ◌<◌, Bool, true, false, not, ◌&&◌, ◌↔◌, inl, inr, List, eqb, refl, sym, ◌∙◌, subst, arith}
use Rattle.std.proofs.lemmas.Bool.{eqb-true, eq-eqb, ne_eqb, not-true, cases_lt, and_parts, and_from, or_cases, or_left, or_right}
use Rattle.bit_rows.specs.Rows.{has, IsWith, IsWithout}
use Rattle.msc_race.specs.Remainders.{HoldsExactly, HoldsBelow, HoldsOthers}
use Rattle.msc_race.proofs.Shared.{clash}

-- one number more is told
pub below_with : (old new : List ℕ) (P : ℕ → Type 0) (k : ℕ) (b : Bool) → HoldsBelow old P k → IsWith old new b k
    → ((b ≡ true) ↔ P k) → HoldsBelow new P (k + 1)
below_with old new P k b held wider told y = (
  λ h. elim (or_cases (has old y) (b && eqb y k) (sym (wider y) ∙ h)) [
    | inl before ↦ let p = (held y).0 before in (p.0, omega (arith, p.1))
    | inr here ↦
        let both = and_parts b (eqb y k) here in
        let same : y ≡ k = eqb-true y k both.1 in
        (subst P (sym same) (told.0 both.0), omega (arith, same))
  ],
  λ p. wider y ∙ elim (cases_lt y k) [
    | inl below ↦ or_left (has old y) (b && eqb y k) ((held y).1 (p.0, below))
    | inr above ↦
        let same : y ≡ k = omega (arith, above, p.1) in
        or_right (has old y) (b && eqb y k) (and_from b (eqb y k) (told.1 (subst P same p.0)) (eq-eqb y k same))
  ],
)

-- all numbers are told where none past the bound has the property
pub below_all : (row : List ℕ) (P : ℕ → Type 0) (n : ℕ) → HoldsBelow row P n → ((y : ℕ) → P y → y < n) → HoldsExactly row P
below_all row P n held bound y = (λ h. ((held y).0 h).0, λ p. (held y).1 (p, bound y p))

-- nothing changes where the next number has not the property
pub below_same : (row : List ℕ) (P : ℕ → Type 0) (k : ℕ) → HoldsBelow row P k → (P k → ⊥) → HoldsBelow row P (k + 1)
below_same row P k held none y = (
  λ h. let p = (held y).0 h in (p.0, omega (arith, p.1)),
  λ p. (held y).1 (
    p.0,
    elim (cases_lt y k) [
      | inl below ↦ below
      | inr above ↦ let same : y ≡ k = omega (arith, above, p.1) in absurd (none (subst P same p.0))
    ],
  ),
)

-- nor where it has not what takes a number out
pub others_same : (row : List ℕ) (P Q : ℕ → Type 0) (k : ℕ) → HoldsOthers row P Q k → (Q k → ⊥) → HoldsOthers row P Q (k + 1)
others_same row P Q k held none y = (
  λ h.
      let p = (held y).0 h in (
        p.0,
        λ below q. elim (cases_lt y k) [
          | inl before ↦ p.1 before q
          | inr above ↦ let same : y ≡ k = omega (arith, above, below) in none (subst Q same q)
        ],
      ),
  λ p. (held y).1 (p.0, λ below q. p.1 (omega (arith, below)) q),
)

-- the next number is taken out
pub others_without : (old new : List ℕ) (P Q : ℕ → Type 0) (k : ℕ) → HoldsOthers old P Q k → IsWithout old new k → Q k
    → HoldsOthers new P Q (k + 1)
others_without old new P Q k held less out y = (
  λ h.
      let both = and_parts (has old y) (not (eqb y k)) (sym (less y) ∙ h) in
      let p = (held y).0 both.0 in (
        p.0,
        λ below q. elim (cases_lt y k) [
          | inl before ↦ p.1 before q
          | inr above ↦
              let same : y ≡ k = omega (arith, above, below) in
              clash (eq-eqb y k same) (not-true (eqb y k) both.1)
        ],
      ),
  λ p.
      let other : eqb y k ≡ false = ne_eqb y k (λ same. p.1 (omega (arith, same)) (subst Q (sym same) out)) in
      less y ∙ and_from (has old y) (not (eqb y k)) ((held y).1 (p.0, λ below q. p.1 (omega (arith, below)) q)) (rw other refl),
)

-- once all is told, the others are those without what takes a number out
pub others_all : (row : List ℕ) (P Q : ℕ → Type 0) (n : ℕ) → HoldsOthers row P Q n → ((y : ℕ) → P y → y < n)
    → HoldsExactly row (λ y. P y × (Q y → ⊥))
others_all row P Q n held bound y =
    (λ h. let p = (held y).0 h in (p.0, λ q. p.1 (bound y p.0) q), λ p. (held y).1 (p.0, λ below q. p.1 q))

-- where no number has what takes numbers out, the row tells of all
pub others_none : (row : List ℕ) (P Q : ℕ → Type 0) (k n : ℕ) → HoldsOthers row P Q k → ((y : ℕ) → Q y → ⊥) → HoldsOthers row P Q n
others_none row P Q k n held none y = (
  λ h. (((held y).0 h).0, λ below q. none y q),
  λ p. (held y).1 (p.0, λ below q. none y q),
)

-- and so does a row where no number has its property
pub below_none : (row : List ℕ) (P : ℕ → Type 0) (k n : ℕ) → HoldsBelow row P k → ((y : ℕ) → P y → ⊥) → HoldsBelow row P n
below_none row P k n held none y = (λ h. absurd (none y ((held y).0 h).0), λ p. absurd (none y p.0))
