-- Which words of a set's row have a number, while numbers come and go.
use Rattle.std.proofs.Common.{◌≡◌, ℕ, ◌*◌, ◌/◌, ◌%◌, ◌^◌, ◌<◌, ◌≤◌, false, not, ◌||◌, inl, inr, eqb, List, length, get_or, refl, sym, ◌∙◌, arith, bit_or, bit_and, w64}
use Rattle.std.specs.Int.{bit_not}
use Rattle.std.proofs.lemmas.Bool.{eqb-true, eq-eqb, ne_eqb, or_cases, or_left, or_right, and_parts, and_from}
use Rattle.bit_rows.specs.Rows.{bit_of, has, IsWithout}
use Rattle.bit_rows.specs.Sets.{HasSummary}
use Rattle.bit_rows.proofs.Bits.{clash, bit_alone, bit_meet, bit_other, bit_put, bit_zero}
use Rattle.bit_rows.proofs.Rows.{has_none}

-- without a number no word has one
pub summary_blank : (row : List ℕ) → length row ≤ 64 → ((y : ℕ) → has row y ≡ false) → HasSummary row 0
summary_blank row few none = record {
  few = few;
  told = λ y h. clash h (none y);
  within = λ k h. clash h (bit_zero k);
}

-- with one number more its word has one
pub summary_put : (row new : List ℕ) (some y : ℕ) → HasSummary row some → y < 64 * length row → length new ≡ length row
    → ((z : ℕ) → has new z ≡ (has row z || eqb z y)) → HasSummary new (bit_or some (1 * 2 ^ (y / 64) % 2 ^ 64))
summary_put row new some y old inside same more =
    let few = old.few in
    let fits : y / 64 < 64 = omega (arith, inside, few) in
    let bits = λ (k : ℕ). bit_put some (y / 64) k fits in
    record {
      few = rw same few;
      told = λ z h. bits (z / 64) ∙ elim (or_cases (has row z) (eqb z y) (sym (more z) ∙ h)) [
        | inl before ↦ or_left (bit_of some (z / 64)) (eqb (z / 64) (y / 64)) (old.told z before)
        | inr here ↦
            let is : z ≡ y = eqb-true z y here in
            or_right (bit_of some (z / 64)) (eqb (z / 64) (y / 64)) (eq-eqb (z / 64) (y / 64) (omega (arith, is)))
      ];
      within = λ k h. elim (or_cases (bit_of some k) (eqb k (y / 64)) (sym (bits k) ∙ h)) [
        | inl before ↦ let low = old.within k before in omega (arith, low, same)
        | inr here ↦ let is : k ≡ y / 64 = eqb-true k (y / 64) here in omega (arith, is, inside, same)
      ];
    }

-- the bit of a word that is empty now goes
pub summary_clear : (row new : List ℕ) (some y : ℕ) → HasSummary row some → y < 64 * length row → length new ≡ length row
    → IsWithout row new y → get_or new (y / 64) 0 ≡ 0
    → HasSummary new (bit_and some (bit_not w64 (1 * 2 ^ (y / 64) % 2 ^ 64)))
summary_clear row new some y old inside same less empty =
    let few = old.few in
    let fits : y / 64 < 64 = omega (arith, inside, few) in
    let one : ℕ = 1 * 2 ^ (y / 64) % 2 ^ 64 in
    record {
      few = rw same few;
      told = λ z h.
          let other : eqb (z / 64) (y / 64) ≡ false = ne_eqb (z / 64) (y / 64) (λ is. clash h (has_none new z (rw is empty))) in
          let before = old.told z (and_parts (has row z) (not (eqb z y)) (sym (less z) ∙ h)).0 in
          let low = old.within (z / 64) before in
          bit_meet some (bit_not w64 one) (z / 64)
          ∙ and_from (bit_of some (z / 64)) (bit_of (bit_not w64 one) (z / 64)) before
          (bit_other one (z / 64) (omega arith) (omega (arith, low, few)) ∙ rw (bit_alone (y / 64) (z / 64) fits, other) refl);
      within = λ k h.
          let low = old.within k (and_parts (bit_of some k) (bit_of (bit_not w64 one) k) (sym (bit_meet some (bit_not w64 one) k) ∙ h)).0 in
          omega (arith, low, same);
    }
