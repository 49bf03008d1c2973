-- How many pairs there are.
use Rattle.std.proofs.Common.{◌≡◌, ℕ, zero, suc, ◌+◌, ◌*◌, ◌/◌, ◌%◌, ◌^◌, ◌<◌, ◌≤◌, Bool, true, false, cond, not, ◌&&◌, inl, inr, List, [], ◌∷◌, length, get_or, min, eqb, nat_le, nat_lt, refl, sym, ap, ap₂, ◌∙◌, arith, count_ones}
use Rattle.std.proofs.lemmas.Bool.{cases_eq, eq-eqb, ne_eqb}
use Rattle.std.proofs.lemmas.List.{length-append}
use Rattle.std.proofs.lemmas.Nat.{mod-pow-add, ones_cat, ones_le_self, pow_pos, zero_from_ones}
use Rattle.std.proofs.lemmas.Nat.Bits.{bit_at-lt}
use Rattle.bit_rows.specs.Rows.{bit_of}
use Rattle.msc_chart.specs.declared.TheConstants.{EVENT_LIMIT}
use Rattle.msc_chart.specs.Lists.{pairs_to}
use Rattle.msc_race.specs.Gaps.{is_gap}
use Rattle.msc_race.specs.Words.{is_in_word}
use Rattle.msc_race.proofs.Listing.Gaps.{gaps_more}
use Rattle.msc_race.proofs.Listing.Pairs.{below_more, below_none, pairs_below, pairs_between, pairs_next, pairs_none}
use Rattle.msc_race.proofs.Listing.Words.{in_word, out_of_word}

-- one pair where a test passes, and none where it does not
one_or_none : (b : Bool) (p : ℕ × ℕ) → length (cond b (p ∷ []) []) ≡ cond b 1 0
one_or_none true p = refl
one_or_none false p = refl

module _ (test : ℕ → ℕ → Bool) where
  -- one number more brings at most one pair
  count_next : (e k : ℕ) → length (pairs_to test e (k + 1)) ≡ length (pairs_to test e k) + cond (test e k) 1 0
  count_next e k =
      ap length (pairs_next test e k) ∙ length-append (pairs_to test e k) (cond (test e k) ((e, k) ∷ []) [])
      ∙ ap (λ (n : ℕ). length (pairs_to test e k) + n) (one_or_none (test e k) (e, k))

  -- so a number has no more pairs than there are numbers
  pub to_few : (e k : ℕ) → length (pairs_to test e k) ≤ k
  to_few e zero = let none = ap length (pairs_none test e) in omega (arith, none)
  to_few e (suc k) =
      let one : suc k ≡ k + 1 = omega arith in
      let before = to_few e k in
      let next = count_next e k in
      rw one (at_most (test e k) next before)
    where
      -- with the pair that it may bring, and without it
      at_most : {m n : ℕ} (b : Bool) → n ≡ m + cond b 1 0 → m ≤ k → n ≤ k + 1
      at_most true same le = omega (arith, same, le)
      at_most false same le = omega (arith, same, le)

  -- and numbers below k, with numbers below n, have at most n each
  pub below_few : (n k : ℕ) → n ≤ EVENT_LIMIT → length (pairs_below test n k) ≤ k * EVENT_LIMIT
  below_few n zero few = let none = ap length (below_none test n) in omega (arith, none)
  below_few n (suc k) few =
      let one : suc k ≡ k + 1 = omega arith in
      let more = ap length (below_more test n k) ∙ length-append (pairs_below test n k) (pairs_to test k n) in
      let before = below_few n k few in
      let last = to_few k n in
      rw one (omega (arith, more, before, last, few))

-- a digit counts as it is
digit_ones : (b : ℕ) → b < 2 → count_ones b ≡ cond (eqb b 1) 1 0
digit_ones b below =
    let most = ones_le_self b in
    elim (cases_eq b 1) [
      | inl one ↦ rw (eq-eqb b 1 one) (elim (cases_eq (count_ones b) 0) [
        | inl none ↦ let zero = zero_from_ones b none in absurd (omega (arith, zero, one))
        | inr some ↦ omega (arith, most, one, some)
      ])
      | inr other ↦ rw (ne_eqb b 1 other) (omega (arith, most, below, other))
    ]

-- the ones of a word below bit i + 1
ones_next : (word i : ℕ) → count_ones (word % 2 ^ (i + 1)) ≡ count_ones (word % 2 ^ i) + cond (bit_of word i) 1 0
unfolding bit_of
ones_next word i =
    let digit : word / 2 ^ i % 2 < 2 = bit_at-lt word i in
    let swap : i + 1 ≡ 1 + i = omega arith in
    let split = ap (λ (n : ℕ). word % 2 ^ n) swap ∙ mod-pow-add word 1 i in
    let cat = ones_cat i (word / 2 ^ i % 2) (word % 2 ^ i) (omega (arith, pow_pos i)) in
    let one = digit_ones (word / 2 ^ i % 2) digit in
    let all = ap count_ones split ∙ cat in
    omega (arith, all, one)

-- below bit i a word has as many numbers as ones
ones_below : (word k e i : ℕ) → i ≤ 64 → length (pairs_to (is_in_word word k) e (64 * k + i)) ≡ count_ones (word % 2 ^ i)
ones_below word k e zero le =
    let none = pairs_between (is_in_word word k) e 0 (64 * k + 0) (omega arith) (λ f low below. out_of_word word k e f (λ same. omega (arith, same, below)))
    ∙ pairs_none (is_in_word word k) e in
    let nothing : word % 2 ^ 0 ≡ 0 = omega arith in
    ap length none ∙ sym (ap count_ones nothing ∙ digit_ones 0 (omega arith))
ones_below word k e (suc i) le =
    let one : 64 * k + suc i ≡ 64 * k + i + 1 = omega arith in
    let next : suc i ≡ i + 1 = omega arith in
    let place : (64 * k + i) / 64 ≡ k = omega (arith, le) in
    let bit : (64 * k + i) % 64 ≡ i = omega (arith, le) in
    let here = in_word word k e (64 * k + i) place ∙ ap (λ (j : ℕ). bit_of word j) bit in
    let before = ones_below word k e i (omega (arith, le)) in
    rw (one, next) (count_next (is_in_word word k) e (64 * k + i)
    ∙ ap₂ (λ (n : ℕ) (b : Bool). n + cond b 1 0) before here ∙ sym (ones_next word i))

-- a word has as many numbers as ones
ones_of_word : (word k e : ℕ) → word < 2 ^ 64 → length (pairs_to (is_in_word word k) e (64 * k + 64)) ≡ count_ones word
ones_of_word word k e fits =
    let whole : word % 2 ^ 64 ≡ word = omega (arith, fits) in
    ones_below word k e 64 (omega arith) ∙ ap count_ones whole

-- so word k adds as many gaps as it has ones
pub gaps_counted : (row : List ℕ) (start end e k gaps : ℕ) → 64 * k < end → gaps < 2 ^ 64
    → ((f : ℕ) → f / 64 ≡ k → bit_of gaps (f % 64) ≡ (not (bit_of (get_or row k 0) (f % 64)) && nat_le start f && nat_lt f end))
    → length (pairs_to (is_gap row start) e (min (64 * (k + 1)) end)) ≡ length (pairs_to (is_gap row start) e (min (64 * k) end)) + count_ones gaps
gaps_counted row start end e k gaps more fits bits =
    let before = pairs_to (is_gap row start) e (min (64 * k) end) in
    ap length (gaps_more row start end e k gaps more bits) ∙ length-append before (pairs_to (is_in_word gaps k) e (64 * k + 64))
    ∙ ap (λ (n : ℕ). length before + n) (ones_of_word gaps k e fits)
