-- What the reads and writes of one row of bits do to its numbers.
use Rattle.std.proofs.Common.{◌≡◌, ◌≢◌, ℕ, ◌+◌, ◌-◌, ◌*◌, ◌/◌, ◌%◌, ◌^◌, ◌<◌, ◌≤◌, true, false, not, ◌&&◌, ◌||◌, inl, inr, eqb, ltb, List, length, get_or, set, replicate, refl, sym, ap, ◌∙◌, arith, get_or-set_same, get_or-set_other, bit_or, bit_and, w64}
use Rattle.std.specs.Int.{bit_not, trailing_zeros}
use Rattle.std.proofs.lemmas.Bool.{and_parts, eq-eqb, ne_eqb, cases_eq, cases_lt, lt-ltb, le-ltb}
use Rattle.std.proofs.lemmas.Bool.Decides.{nat_tests}
use Rattle.std.proofs.lemmas.List.{get_or_past, get_or-replicate, length-replicate}
use Rattle.std.proofs.lemmas.Nat.Bits.{bit_at-trailing_zeros}
use Rattle.std.proofs.Math.Bool.{or-false, and-true}
use Rattle.bit_rows.specs.Rows.{all_ones, bit_of, has, AreApartTo}
use Rattle.bit_rows.proofs.Bits.{clash, bit_put, bit_meet, bit_other, bit_alone, bit_zero, low_ones}

-- numbers of one word differ as their bits do
pub same_bit : (y z : ℕ) → z / 64 ≡ y / 64 → eqb (z % 64) (y % 64) ≡ eqb z y
same_bit y z h =
    elim (cases_eq z y) [
      | inl same ↦ rw (same, eq-eqb (y % 64) (y % 64) refl, eq-eqb y y refl) refl
      | inr other ↦ rw (ne_eqb z y other, ne_eqb (z % 64) (y % 64) (λ e. other (omega (arith, e, h)))) refl
    ]

-- a row of empty words has no number
pub has_blank : (size y : ℕ) → has (replicate size 0) y ≡ false
unfolding has
has_blank size y = ap (λ word. bit_of word (y % 64)) (zero_at (y / 64)) ∙ bit_zero (y % 64)
  where
    -- each word of the row is zero, and so is what is read behind them
    zero_at : (i : ℕ) → get_or {A = ℕ} (replicate size 0) i 0 ≡ 0
    zero_at i = elim (cases_lt i size) [
      | inl lt ↦ get_or-replicate size i 0 0 lt
      | inr ge ↦ get_or_past (replicate size 0) i 0 (let l = length-replicate {A = ℕ} size 0 in omega (arith, l, ge))
    ]

-- a row with one bit more
pub has_put : (row : List ℕ) (y z : ℕ) → y < 64 * length row
    → has (set row (y / 64) (bit_or (get_or row (y / 64) 0) (1 * 2 ^ (y % 64) % 2 ^ 64))) z ≡ (has row z || eqb z y)
unfolding has
has_put row y z inside =
    let word : ℕ = bit_or (get_or row (y / 64) 0) (1 * 2 ^ (y % 64) % 2 ^ 64) in
    elim (cases_eq (z / 64) (y / 64)) [
      | inl same ↦
          rw (same, get_or-set_same row (y / 64) word 0 (omega (arith, inside)))
          (bit_put (get_or row (y / 64) 0) (y % 64) (z % 64) (omega arith)
          ∙ ap (λ b. bit_of (get_or row (y / 64) 0) (z % 64) || b) (same_bit y z same))
      | inr other ↦
          rw (get_or-set_other row (y / 64) (z / 64) word 0 other, ne_eqb z y (λ same. other (rw same refl)))
          (sym (or-false (bit_of (get_or row (z / 64) 0) (z % 64))))
    ]

-- a row with one bit less
pub has_clear : (row : List ℕ) (y z : ℕ) → y < 64 * length row
    → has (set row (y / 64) (bit_and (get_or row (y / 64) 0) (bit_not w64 (1 * 2 ^ (y % 64) % 2 ^ 64)))) z ≡ (has row z && not (eqb z y))
unfolding has
has_clear row y z inside =
    let one : ℕ = 1 * 2 ^ (y % 64) % 2 ^ 64 in
    let word : ℕ = bit_and (get_or row (y / 64) 0) (bit_not w64 one) in
    elim (cases_eq (z / 64) (y / 64)) [
      | inl same ↦
          rw (same, get_or-set_same row (y / 64) word 0 (omega (arith, inside)))
          (bit_meet (get_or row (y / 64) 0) (bit_not w64 one) (z % 64)
          ∙ ap (λ b. bit_of (get_or row (y / 64) 0) (z % 64) && b)
          (bit_other one (z % 64) (omega arith) (omega arith) ∙ ap not (bit_alone (y % 64) (z % 64) (omega arith) ∙ same_bit y z same)))
      | inr other ↦
          rw (get_or-set_other row (y / 64) (z / 64) word 0 other, ne_eqb z y (λ same. other (rw same refl)))
          (sym (and-true (bit_of (get_or row (z / 64) 0) (z % 64))))
    ]

-- an empty word has no number
pub has_none : (row : List ℕ) (y : ℕ) → get_or row (y / 64) 0 ≡ 0 → has row y ≡ false
unfolding has
has_none row y none = rw none (bit_zero (y % 64))

-- nor is there a number past the last word
pub has_past : (row : List ℕ) (y : ℕ) → 64 * length row ≤ y → has row y ≡ false
has_past row y past = has_none row y (get_or_past row (y / 64) 0 (omega (arith, past)))

-- where word k is empty too, a row that has no number below it has none below the next word
pub above_further : (row : List ℕ) (k : ℕ) → ((y : ℕ) → has row y ≡ true → 64 * k ≤ y)
    → get_or row k 0 ≡ 0 → (y : ℕ) → has row y ≡ true → 64 * (k + 1) ≤ y
above_further row k above empty y h =
    elim (cases_lt y (64 * (k + 1))) [
      | inr past ↦ past
      | inl here ↦
          let low = above y h in
          let same : y / 64 ≡ k = omega (arith, here, low) in
          let none = has_none row y (rw same empty) in
          clash h none
    ]

-- a number of a row, by its word and its bit
pub has_at : (row : List ℕ) (y k : ℕ) → y / 64 ≡ k → has row y ≡ bit_of (get_or row k 0) (y % 64)
unfolding has
has_at row y k here = rw here refl

-- where two rows have nothing in common in word k either, they have nothing up to its end
pub none_common : (one other : List ℕ) (k : ℕ) → AreApartTo one other k → bit_and (get_or one k 0) (get_or other k 0) ≡ 0 → AreApartTo one other (k + 1)
none_common one other k none empty y below here =
    elim (cases_lt y (64 * k)) [
      | inl before ↦ none y before here
      | inr after ↦
          let same : y / 64 ≡ k = omega (arith, after, below) in
          let i : ℕ = y % 64 in
          let met = sym (bit_meet (get_or one k 0) (get_or other k 0) i) ∙ ap (λ w. bit_of w i) empty ∙ bit_zero i in
          has_at other y k same ∙ ap (λ b. b && bit_of (get_or other k 0) i) (sym here ∙ has_at one y k same) ∙ met
    ]

-- and where they have something in common in it, that is a number of both
pub some_common : (one other : List ℕ) (k : ℕ) → bit_and (get_or one k 0) (get_or other k 0) ≢ 0 → bit_and (get_or one k 0) (get_or other k 0) < 2 ^ 64
    → (y : ℕ) × (y / 64 ≡ k) × (has one y ≡ true) × (has other y ≡ true)
unfolding bit_of
some_common one other k some fits =
    let word : ℕ = bit_and (get_or one k 0) (get_or other k 0) in
    let low = bit_at-trailing_zeros w64 word (omega (arith, some)) fits in
    let t : ℕ = trailing_zeros w64 word in
    let t_below : t < 64 = low.0 in
    let here : (64 * k + t) / 64 ≡ k = omega (arith, t_below) in
    let rest : (64 * k + t) % 64 ≡ t = omega (arith, t_below) in
    let bit : bit_of word t ≡ true = rw low.1 refl in
    let both = and_parts _ _ (sym (bit_meet (get_or one k 0) (get_or other k 0) t) ∙ bit) in
    (64 * k + t, here, has_at one (64 * k + t) k here ∙ rw rest both.0, has_at other (64 * k + t) k here ∙ rw rest both.1)

-- words of ones have all numbers up to the last word
pub has_ones : (count y : ℕ) → has (replicate count all_ones) y ≡ ltb y (64 * count)
unfolding has
has_ones count y =
    elim (cases_lt y (64 * count)) [
      | inl inside ↦
          rw (get_or-replicate {A = ℕ} count (y / 64) all_ones 0 (omega (arith, inside)), lt-ltb y (64 * count) inside)
          (low_ones 0 (y % 64) (omega arith) ∙ lt-ltb (y % 64) 64 (omega arith))
      | inr past ↦
          rw (le-ltb y (64 * count) past)
          (has_past (replicate count all_ones) y (let l = length-replicate {A = ℕ} count all_ones in omega (arith, l, past)))
    ]

-- with the last word cut they have those below n
pub has_cut : (count n rest y : ℕ) → count ≡ (n + 63) / 64 → rest ≡ n % 64 → 0 < rest
    → has (set (replicate count all_ones) (n / 64) (all_ones / 2 ^ (64 - rest))) y ≡ ltb y n
has_cut count n rest y size is some =
    let row : List ℕ = replicate count all_ones in
    let len = length-replicate {A = ℕ} count all_ones in
    let word : ℕ = all_ones / 2 ^ (64 - rest) in
    let inside : n / 64 < length row = omega (arith, len, size, is, some) in
    elim (cases_eq (y / 64) (n / 64)) [
      | inl same ↦
          has_at (set row (n / 64) word) y (n / 64) same
          ∙ rw (get_or-set_same row (n / 64) word 0 inside) (low_ones (64 - rest) (y % 64) (omega arith) ∙ cut same)
      | inr other ↦
          has_at (set row (n / 64) word) y (y / 64) refl
          ∙ rw (get_or-set_other row (n / 64) (y / 64) word 0 other) (sym (has_at row y (y / 64) refl) ∙ has_ones count y ∙ apart other)
    ]
  where
    -- in the word of n, the bits that are left are those of the numbers below n
    cut : y / 64 ≡ n / 64 → ltb (y % 64) (64 - (64 - rest)) ≡ ltb y n
    cut same = grind (arith, nat_tests, is, some)

    -- in another word, the numbers of the row are those below n
    apart : y / 64 ≢ n / 64 → ltb y (64 * count) ≡ ltb y n
    apart other = grind (arith, nat_tests, size, is, some)
