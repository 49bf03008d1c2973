-- Truth values, and the bits of words.
use Rattle.std.proofs.Common.{◌≡◌, ℕ, ◌+◌, ◌-◌, ◌*◌, ◌/◌, ◌%◌, ◌^◌, ◌<◌, ◌≤◌, ◌⊎◌, min, max, Bool, true, false, not, ◌&&◌, ◌||◌, inl, inr, eqb, leb, ltb, refl, sym, ◌∙◌, arith, bit_or, bit_and, w64}
use Rattle.std.specs.Int.{bit_at, bit_not}
use Rattle.std.proofs.Math.Bool.{or-false, or-true}
use Rattle.std.proofs.lemmas.Bool.{le-leb, lt-leb, lt-ltb, le-ltb, eq-eqb, ne_eqb, cases_lt, cases_eq}
use Rattle.std.proofs.lemmas.Nat.Bits.{bit_at-lt, bit_at-zero, bit_at_or, bit_at_and, bit_at_not, shr_and_one, bit_at_set_same, bit_at_set_other, bit_at_mask_below, bit_at_mask_inside, bit_at_ones, bit_at_ones_above, ones_shl, ones_shr}
use Rattle.std.proofs.lemmas.Grind.{div_ceil_times}
use Rattle.bit_rows.specs.Rows.{all_ones, bit_of, word_count}

-- a test is true or false
pub by_test : {X : Type 0} (b : Bool) → (b ≡ true → X) → (b ≡ false → X) → X
by_test true f g = f refl
by_test false f g = g refl

-- and not both
pub clash : {X : Type 0} {b : Bool} → b ≡ true → b ≡ false → X
clash p q = cc

-- the words of a row have a bit for each number below n
pub words_enough : (n : ℕ) → n ≤ 64 * word_count n
unfolding word_count
words_enough n = let h = div_ceil_times n 64 (omega arith) in omega (arith, h.0)

-- a number with a bit in a row lies in one of its words
pub word_below : (n y : ℕ) → y < 64 * word_count n → y / 64 < word_count n
word_below n y h = omega arith

-- what is below the next number is below this one, or this one
pub below-suc : (y k : ℕ) → ltb y (k + 1) ≡ (ltb y k || eqb y k)
below-suc y k =
    elim (cases_lt y k) [
      | inl less ↦ rw (lt-ltb y k less, lt-ltb y (k + 1) (omega arith)) refl
      | inr more ↦ elim (cases_eq y k) [
        | inl same ↦ rw (le-ltb y k more, eq-eqb y k same, lt-ltb y (k + 1) (omega arith)) refl
        | inr other ↦ rw (le-ltb y k more, ne_eqb y k other, le-ltb y (k + 1) (omega arith)) refl
      ]
    ]

-- the code's test of one bit
pub bit_read : (word i b : ℕ) → b ≡ bit_and (word / 2 ^ i) 1 → eqb b 1 ≡ bit_of word i
unfolding bit_of
bit_read word i b h = rw (h, shr_and_one word i) refl

-- 0 has no bit
pub bit_zero : (i : ℕ) → bit_of 0 i ≡ false
unfolding bit_of
bit_zero i = rw (bit_at-zero i) refl

-- a word with one bit more
pub bit_put : (word k i : ℕ) → k < 64 → bit_of (bit_or word (1 * 2 ^ k % 2 ^ 64)) i ≡ (bit_of word i || eqb i k)
unfolding bit_of
bit_put word k i below =
    elim (cases_eq i k) [
      | inl same ↦ rw (same, bit_at_set_same w64 word k below, eq-eqb k k refl) (sym (or-true (eqb (bit_at word k) 1)))
      | inr other ↦ rw (bit_at_set_other w64 word k below i other, ne_eqb i k other) (sym (or-false (eqb (bit_at word i) 1)))
    ]

-- a digit is 0 or 1
digit : (b : ℕ) → b < 2 → (b ≡ 1) ⊎ (b ≡ 0)
digit b below = elim (cases_eq b 1) [ inl one ↦ inl one | inr other ↦ inr (omega (arith, below, other)) ]

-- the greater of two digits is 1 where one of them is
digits_or : (a b : ℕ) → a < 2 → b < 2 → eqb (max a b) 1 ≡ (eqb a 1 || eqb b 1)
digits_or a b ha hb =
    elim (digit a ha) [
      | inl p ↦ elim (digit b hb) [ inl q ↦ rw (p, q) refl | inr q ↦ rw (p, q) refl ]
      | inr p ↦ elim (digit b hb) [ inl q ↦ rw (p, q) refl | inr q ↦ rw (p, q) refl ]
    ]

-- the smaller is 1 where both are
digits_and : (a b : ℕ) → a < 2 → b < 2 → eqb (min a b) 1 ≡ (eqb a 1 && eqb b 1)
digits_and a b ha hb =
    elim (digit a ha) [
      | inl p ↦ elim (digit b hb) [ inl q ↦ rw (p, q) refl | inr q ↦ rw (p, q) refl ]
      | inr p ↦ elim (digit b hb) [ inl q ↦ rw (p, q) refl | inr q ↦ rw (p, q) refl ]
    ]

-- the other digit is 1 where this one is not
digit_not : (a : ℕ) → a < 2 → eqb (1 - a) 1 ≡ not (eqb a 1)
digit_not a h = elim (digit a h) [ inl p ↦ rw p refl | inr p ↦ rw p refl ]

-- the bits that one of two words has
pub bit_join : (a b i : ℕ) → bit_of (bit_or a b) i ≡ (bit_of a i || bit_of b i)
unfolding bit_of
bit_join a b i = rw (bit_at_or a b i) (digits_or (bit_at a i) (bit_at b i) (bit_at-lt a i) (bit_at-lt b i))

-- the bits that both of two words have
pub bit_meet : (a b i : ℕ) → bit_of (bit_and a b) i ≡ (bit_of a i && bit_of b i)
unfolding bit_of
bit_meet a b i = rw (bit_at_and a b i) (digits_and (bit_at a i) (bit_at b i) (bit_at-lt a i) (bit_at-lt b i))

-- the bits that a word has not
pub bit_other : (a i : ℕ) → a < 2 ^ 64 → i < 64 → bit_of (bit_not w64 a) i ≡ not (bit_of a i)
unfolding bit_of
bit_other a i fits below = rw (bit_at_not w64 a i fits below) (digit_not (bit_at a i) (bit_at-lt a i))

-- a word with one bit alone
pub bit_alone : (k i : ℕ) → k < 64 → bit_of (1 * 2 ^ k % 2 ^ 64) i ≡ eqb i k
bit_alone k i below = sym (orz (1 * 2 ^ k % 2 ^ 64)) ∙ bit_put 0 k i below ∙ rw (bit_zero i) refl
  where
    -- joining with zero changes no bit
    orz : (a : ℕ) → bit_of (bit_or 0 a) i ≡ bit_of a i
    orz a = bit_join 0 a i ∙ rw (bit_zero i) refl

-- a row has few words
pub words_few : (n : ℕ) → 64 * word_count n ≤ n + 63
unfolding word_count
words_few n = let h = div_ceil_times n 64 (omega arith) in omega (arith, h.1)

-- the ones of a word below bit 64 - s
pub low_ones : (s i : ℕ) → s ≤ 64 → bit_of (all_ones / 2 ^ s) i ≡ ltb i (64 - s)
unfolding bit_of
low_ones s i fits =
    rw (ones_shr 64 s fits) (elim (cases_lt i (64 - s)) [
      | inl below ↦ rw (bit_at_ones (64 - s) i below, lt-ltb i (64 - s) below) refl
      | inr past ↦ rw (bit_at_ones_above (64 - s) i past, le-ltb i (64 - s) past) refl
    ])

-- the ones of a word from bit s on
pub high_ones : (s i : ℕ) → s ≤ 64 → i < 64 → bit_of (all_ones * 2 ^ s % 2 ^ 64) i ≡ leb s i
unfolding bit_of
high_ones s i fits inside =
    rw (ones_shl 64 s fits) (elim (cases_lt i s) [
      | inl below ↦ rw (bit_at_mask_below s 64 i below, lt-leb s i below) refl
      | inr from ↦ rw (bit_at_mask_inside s 64 i from inside, le-leb s i from) refl
    ])
