-- The zeros of a row in a range of numbers, word by word.
use Rattle.std.proofs.Common.{◌≡◌, ℕ, ◌+◌, ◌*◌, ◌/◌, ◌%◌, ◌<◌, ◌≤◌, Bool, false, not, ◌&&◌, List, [], ◌++◌, get_or, leb, ltb, min, sym, ap, ◌∙◌, refl, arith}
use Rattle.std.proofs.Math.Bool.{and-false, and-true, and_comm}
use Rattle.std.proofs.lemmas.Bool.{lt-leb, lt-ltb, le-ltb}
use Rattle.bit_rows.specs.Rows.{bit_of, has}
use Rattle.msc_chart.specs.Lists.{pairs_to}
use Rattle.msc_race.specs.Gaps.{is_gap}
use Rattle.msc_race.specs.Words.{is_in_word}
use Rattle.msc_race.proofs.Listing.Pairs.{pairs_between, pairs_join, pairs_none}
use Rattle.msc_race.proofs.Listing.Words.{in_word, out_of_word}

module _ (row : List ℕ) (start end e : ℕ) where
  -- below the start is no gap
  gap_below : (f : ℕ) → f < start → is_gap row start e f ≡ false
  unfolding is_gap
  gap_below f below = rw (lt-leb start f below) refl

  -- so up to the start there are none
  pub no_gaps_yet : (n : ℕ) → n ≤ start → pairs_to (is_gap row start) e n ≡ []
  no_gaps_yet n le = pairs_between (is_gap row start) e 0 n (omega arith) (λ f low below. gap_below f (omega (arith, below, le))) ∙ pairs_none (is_gap row start) e

  -- and word k adds those that are in it
  pub gaps_more : (k gaps : ℕ) → 64 * k < end
      → ((f : ℕ) → f / 64 ≡ k → bit_of gaps (f % 64) ≡ (not (bit_of (get_or row k 0) (f % 64)) && leb start f && ltb f end))
      → pairs_to (is_gap row start) e (min (64 * (k + 1)) end)
      ≡ pairs_to (is_gap row start) e (min (64 * k) end) ++ pairs_to (is_in_word gaps k) e (64 * k + 64)
  unfolding is_gap has
  gaps_more k gaps more bits =
      let gap = is_gap row start in
      let inside = is_in_word gaps k in
      let n : ℕ = min (64 * (k + 1)) end in
      let before : min (64 * k) end ≡ 64 * k = omega arith in
      let below : (f : ℕ) → f < 64 * k → inside e f ≡ false = λ f less. out_of_word gaps k e f (λ same. omega (arith, same, less)) in
      let here : (f : ℕ) → 64 * k ≤ f → f < n → gap e f ≡ inside e f = λ f low high.
      let place : f / 64 ≡ k = omega (arith, low, high) in
      let zero : Bool = not (bit_of (get_or row k 0) (f % 64)) in
      sym (in_word gaps k e f place ∙ bits f place ∙ rw (lt-ltb f end (omega (arith, high)), place) (and-true (zero && leb start f) ∙ and_comm zero (leb start f))) in
      let past : (f : ℕ) → n ≤ f → f < 64 * k + 64 → inside e f ≡ false = λ f low high.
      let place : f / 64 ≡ k = omega (arith, low, high, more) in
      in_word gaps k e f place ∙ bits f place ∙ rw (le-ltb f end (omega (arith, low, high))) (and-false (not (bit_of (get_or row k 0) (f % 64)) && leb start f)) in
      rw before (pairs_join gap inside e (64 * k) n (omega arith) below here
      ∙ ap (λ (l : List (ℕ × ℕ)). pairs_to gap e (64 * k) ++ l) (sym (pairs_between inside e n (64 * k + 64) (omega arith) past)))
