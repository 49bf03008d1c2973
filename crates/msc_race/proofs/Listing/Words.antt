-- The numbers of a word of a row, from the lowest.
use Rattle.std.proofs.Common.{◌≡◌, ◌≢◌, ℕ, zero, suc, ◌+◌, ◌-◌, ◌*◌, ◌/◌, ◌%◌, ◌^◌, ◌<◌, ◌≤◌, true, false, inl, inr, List, [], ◌∷◌, ◌++◌, sym, ap, ◌∙◌, refl, arith, bit_and, w64}
use Rattle.std.specs.Int.{bit_at, trailing_zeros}
use Rattle.std.proofs.Math.Bool.{and-false, and_self}
use Rattle.std.proofs.lemmas.Bool.{cases_eq, cases_lt, eq-eqb, ne_eqb}
use Rattle.std.proofs.lemmas.Nat.Bits.{bit_at_lowest, bit_at-suc, bit_at-trailing_zeros}
use Rattle.bit_rows.specs.Rows.{bit_of}
use Rattle.bit_rows.proofs.Bits.{bit_meet, bit_zero}
use Rattle.msc_chart.specs.Lists.{pairs_to}
use Rattle.msc_race.specs.Words.{is_in_word}
use Rattle.msc_race.proofs.Listing.Pairs.{pairs_between, pairs_join, pairs_more, pairs_none}

-- 1 less has a zero where the lowest one was, and above it the same bits
pub one_less : (t word : ℕ) → bit_at word t ≡ 1 → ((i : ℕ) → i < t → bit_at word i ≡ 0)
    → (bit_at (word - 1) t ≡ 0) × ((i : ℕ) → t < i → bit_at (word - 1) i ≡ bit_at word i)
one_less zero word one none =
    (omega (arith, bit_at_lowest (word - 1), bit_at_lowest word, one), λ i above. higher i above (omega (arith, bit_at_lowest word, one)))
  where
    -- 1 less than an odd word has the same bits above the lowest
    higher : (i : ℕ) → 0 < i → word % 2 ≡ 1 → bit_at (word - 1) i ≡ bit_at word i
    higher zero above odd = absurd (omega arith)
    higher (suc i) above odd =
        let half : (word - 1) / 2 ≡ word / 2 = omega arith in
        bit_at-suc (word - 1) i ∙ ap (λ (n : ℕ). bit_at n i) half ∙ sym (bit_at-suc word i)
one_less (suc t) word one none =
    let even : word % 2 ≡ 0 = omega (arith, bit_at_lowest word, none 0 (omega arith)) in
    let half : (word - 1) / 2 ≡ word / 2 - 1 = omega arith in
    let lower = one_less t (word / 2) (sym (bit_at-suc word t) ∙ one) (λ i below. sym (bit_at-suc word i) ∙ none (suc i) (omega arith)) in
    (bit_at-suc (word - 1) t ∙ ap (λ (n : ℕ). bit_at n t) half ∙ lower.0, higher half lower.1)
  where
    -- 1 less than an even word has the same bits above the lowest one, as 1 less than its half has
    higher : (word - 1) / 2 ≡ word / 2 - 1 → ((i : ℕ) → t < i → bit_at (word / 2 - 1) i ≡ bit_at (word / 2) i)
        → (i : ℕ) → suc t < i → bit_at (word - 1) i ≡ bit_at word i
    higher half lower zero above = absurd (omega arith)
    higher half lower (suc i) above =
        bit_at-suc (word - 1) i ∙ ap (λ (n : ℕ). bit_at n i) half ∙ lower i (omega arith) ∙ sym (bit_at-suc word i)

-- a number of word k is in it where its bit is 1
pub in_word : (word k e f : ℕ) → f / 64 ≡ k → is_in_word word k e f ≡ bit_of word (f % 64)
unfolding is_in_word
in_word word k e f here = rw (eq-eqb (f / 64) k here) refl

-- and no other number is
pub out_of_word : (word k e f : ℕ) → f / 64 ≢ k → is_in_word word k e f ≡ false
unfolding is_in_word
out_of_word word k e f other = rw (ne_eqb (f / 64) k other) refl

-- an empty word has no pairs
pub none_of_word : (k e : ℕ) → pairs_to (is_in_word 0 k) e (64 * k + 64) ≡ []
none_of_word k e = pairs_between (is_in_word 0 k) e 0 (64 * k + 64) (omega arith) (λ f low below. none f) ∙ pairs_none (is_in_word 0 k) e
  where
    -- no number is in an empty word
    none : (f : ℕ) → is_in_word 0 k e f ≡ false
    none f = elim (cases_eq (f / 64) k) [
      | inl here ↦ in_word 0 k e f here ∙ bit_zero (f % 64)
      | inr other ↦ out_of_word 0 k e f other
    ]

module _ (word k e : ℕ) (some : 0 < word) (fits : word < 2 ^ 64) where
  -- the lowest number of a word
  abbrev lowest : ℕ
  lowest = 64 * k + trailing_zeros w64 word

  -- the word without it
  abbrev rest : ℕ
  rest = bit_and word (word - 1)

  -- it is in the word
  lowest_in : is_in_word word k e lowest ≡ true
  unfolding bit_of
  lowest_in =
      let low = bit_at-trailing_zeros w64 word some fits in
      let t : ℕ = trailing_zeros w64 word in
      let t_below : t < 64 = low.0 in
      let place : lowest % 64 ≡ t = omega (arith, t_below) in
      in_word word k e lowest (omega (arith, t_below)) ∙ rw (place, low.1) refl

  -- no number below it is
  none_below : (f : ℕ) → f < lowest → is_in_word word k e f ≡ false
  unfolding bit_of
  none_below f below =
      let low = bit_at-trailing_zeros w64 word some fits in
      elim (cases_eq (f / 64) k) [
        | inl here ↦ in_word word k e f here ∙ rw (low.2 (f % 64) (omega (arith, below, here))) refl
        | inr other ↦ out_of_word word k e f other
      ]

  -- the word without it has no number up to it
  none_left : (f : ℕ) → f < lowest + 1 → is_in_word rest k e f ≡ false
  unfolding bit_of
  none_left f below =
      let low = bit_at-trailing_zeros w64 word some fits in
      let t : ℕ = trailing_zeros w64 word in
      elim (cases_eq (f / 64) k) [
        | inr other ↦ out_of_word rest k e f other
        | inl here ↦ in_word rest k e f here ∙ bit_meet word (word - 1) (f % 64) ∙ elim (cases_lt (f % 64) t) [
          | inl less ↦ rw (low.2 (f % 64) less) refl
          | inr more ↦
              let same : f % 64 ≡ t = omega (arith, below, here, more) in
              rw (same, (one_less t word low.1 low.2).0) (and-false (bit_of word t))
        ]
      ]

  -- and has what is past it
  same_past : (f : ℕ) → lowest + 1 ≤ f → f < 64 * k + 64 → is_in_word word k e f ≡ is_in_word rest k e f
  unfolding bit_of
  same_past f past below =
      let low = bit_at-trailing_zeros w64 word some fits in
      let t : ℕ = trailing_zeros w64 word in
      let here : f / 64 ≡ k = omega (arith, past, below) in
      in_word word k e f here
      ∙ sym (in_word rest k e f here ∙ bit_meet word (word - 1) (f % 64)
      ∙ rw ((one_less t word low.1 low.2).1 (f % 64) (omega (arith, past, here))) (and_self (bit_of word (f % 64))))

  -- so the pairs of a word are that of its lowest number and those of the word without it
  pub lowest_first : pairs_to (is_in_word word k) e (64 * k + 64) ≡ (e, lowest) ∷ pairs_to (is_in_word rest k) e (64 * k + 64)
  lowest_first =
      let low = bit_at-trailing_zeros w64 word some fits in
      let t_below : trailing_zeros w64 word < 64 = low.0 in
      let one = pairs_more (is_in_word word k) e lowest lowest_in
      ∙ ap (λ (l : List (ℕ × ℕ)). l ++ (e, lowest) ∷ []) (pairs_between (is_in_word word k) e 0 lowest (omega arith) (λ f low below. none_below f below) ∙ pairs_none (is_in_word word k) e) in
      pairs_join (is_in_word word k) (is_in_word rest k) e (lowest + 1) (64 * k + 64) (omega (arith, t_below)) none_left same_past
      ∙ ap (λ (l : List (ℕ × ℕ)). l ++ pairs_to (is_in_word rest k) e (64 * k + 64)) one
