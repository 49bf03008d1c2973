-- The least number of sets, found by the words that tell which words of their rows have some.
use Rattle.std.proofs.Common.{◌≡◌, ◌≢◌, ℕ, ◌-◌, ◌*◌, ◌/◌, ◌%◌, ◌^◌, ◌<◌, Bool, true, false, ◌||◌, inl, inr, List, refl, sym, ◌∙◌, arith, bit_or, bit_and, w64}
use Rattle.std.specs.Int.{trailing_zeros}
use Rattle.std.proofs.Math.Bool.{and_self}
use Rattle.std.proofs.lemmas.Bool.{cases_eq, cases_lt, and_parts, or_cases, or_left, or_right}
use Rattle.std.proofs.lemmas.Nat.Bits.{bit_at-trailing_zeros}
use Rattle.bit_rows.specs.Rows.{bit_of, has}
use Rattle.bit_rows.proofs.Bits.{bit_join, bit_meet, bit_zero}
use Rattle.msc_race.specs.Rows.{is_masked}
use Rattle.msc_race.proofs.Shared.{by_test, clash}
use Rattle.msc_race.proofs.Listing.Words.{one_less}

-- each number that passes has a bit for its word
abbrev pub HasItsWords : (ℕ → Bool) → ℕ → Type 0
HasItsWords p left = (y : ℕ) → p y ≡ true → bit_of left (y / 64) ≡ true

-- what one of two sets has in the row has a bit in one of their words
pub told_first : (a b mask : List ℕ) (one other : ℕ) → HasItsWords (has a) one → HasItsWords (has b) other
    → HasItsWords (is_masked a b mask) (bit_or one other)
unfolding is_masked
told_first a b mask one other of_a of_b y h =
    bit_join one other (y / 64) ∙ elim (or_cases (has a y) (has b y) (and_parts (has a y || has b y) (has mask y) h).0) [
      | inl here ↦ or_left (bit_of one (y / 64)) (bit_of other (y / 64)) (of_a y here)
      | inr there ↦ or_right (bit_of one (y / 64)) (bit_of other (y / 64)) (of_b y there)
    ]

-- a bit of one of two words
pub within_first : (one other n : ℕ) → ((k : ℕ) → bit_of one k ≡ true → k < n) → ((k : ℕ) → bit_of other k ≡ true → k < n)
    → (k : ℕ) → bit_of (bit_or one other) k ≡ true → k < n
within_first one other n low high k h =
    elim (or_cases (bit_of one k) (bit_of other k) (sym (bit_join one other k) ∙ h)) [
      | inl here ↦ low k here
      | inr there ↦ high k there
    ]

module _ (left : ℕ) (some : 0 < left) (fits : left < 2 ^ 64) where
  -- the lowest bit
  abbrev low : ℕ
  low = trailing_zeros w64 left

  -- it is there
  pub low_bit : bit_of left low ≡ true
  unfolding bit_of
  low_bit = rw (bit_at-trailing_zeros w64 left some fits).1 refl

  -- and none below it
  none_under : (i : ℕ) → i < low → bit_of left i ≡ false
  unfolding bit_of
  none_under i below = rw ((bit_at-trailing_zeros w64 left some fits).2 i below) refl

  -- so nothing passes in the words below
  pub none_before : (p : ℕ → Bool) → HasItsWords p left → (y : ℕ) → y < 64 * low → p y ≡ false
  none_before p told y below =
      by_test (p y) (λ h. clash (told y h) (none_under (y / 64) (omega arith))) (λ out. out)

  -- without it the others are left
  others_left : (i : ℕ) → i ≢ low → bit_of left i ≡ true → bit_of (bit_and left (left - 1)) i ≡ true
  unfolding bit_of
  others_left i other h =
      let at_low = bit_at-trailing_zeros w64 left some fits in
      bit_meet left (left - 1) i ∙ elim (cases_lt i low) [
        | inl below ↦ clash h (none_under i below)
        | inr above ↦ rw ((one_less low left at_low.1 at_low.2).1 i (omega (arith, above, other))) (and_self (bit_of left i) ∙ h)
      ]

  -- where its word has nothing that passes, each number that passes has one of the others
  pub told_further : (p : ℕ → Bool) (word : ℕ → ℕ) → ((y : ℕ) → p y ≡ bit_of (word (y / 64)) (y % 64)) → word low ≡ 0
      → HasItsWords p left → HasItsWords p (bit_and left (left - 1))
  told_further p word reads empty told y h =
      elim (cases_eq (y / 64) low) [
        | inl here ↦ clash h (reads y ∙ rw (here, empty) (bit_zero (y % 64)))
        | inr other ↦ others_left (y / 64) other (told y h)
      ]

-- fewer bits are within the same bound
pub within_further : (left n : ℕ) → ((k : ℕ) → bit_of left k ≡ true → k < n) → (k : ℕ) → bit_of (bit_and left (left - 1)) k ≡ true → k < n
within_further left n within k h = within k (and_parts (bit_of left k) (bit_of (left - 1) k) (sym (bit_meet left (left - 1) k) ∙ h)).0
