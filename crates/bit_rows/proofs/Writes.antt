-- What writing one word after the other does to a row of bits.
use Rattle.std.proofs.Common.{◌≡◌, ℕ, ◌+◌, ◌/◌, ◌%◌, ◌^◌, ◌<◌, ◌≤◌, Bool, true, false, not, ◌&&◌, ◌||◌, cond, inl, inr, ltb, List, length, get_or, set, refl, ap, ◌∙◌, arith, get_or-set_same, get_or-set_other, bit_and, bit_or, w64, sym}
use Rattle.std.proofs.lemmas.Bool.{lt-ltb, le-ltb, ne_eqb, cases_lt, cases_eq}
use Rattle.std.specs.Int.{bit_not}
use Rattle.std.specs.Int.Bits.{and_zero_l}
use Rattle.std.proofs.lemmas.List.{get_or_past}
use Rattle.bit_rows.specs.Rows.{bit_of, has}
use Rattle.std.proofs.Math.Bool.{or-false, or-true}
use Rattle.bit_rows.proofs.Bits.{below-suc, bit_join, bit_meet, bit_other}

-- the words of a row below k are written
pub written : (ℕ → ℕ) → List ℕ → ℕ → ℕ → ℕ
written value row k w = cond (ltb w k) (value w) (get_or row w 0)

-- no word is written yet
pub write_start : (value : ℕ → ℕ) (row : List ℕ) (w : ℕ) → get_or row w 0 ≡ written value row 0 w
unfolding written
write_start value row w = rw (le-ltb w 0 (omega arith)) refl

-- what is not written yet is as it was
pub unwritten : (value : ℕ → ℕ) (row : List ℕ) (k : ℕ) → written value row k k ≡ get_or row k 0
unfolding written
unwritten value row k = rw (le-ltb k k (omega arith)) refl

-- one word more is written
pub write_step : (value : ℕ → ℕ) (row now : List ℕ) (k word : ℕ) → k < length now → word ≡ value k
    → ((w : ℕ) → get_or now w 0 ≡ written value row k w) → (w : ℕ) → get_or (set now k word) w 0 ≡ written value row (k + 1) w
unfolding written
write_step value row now k word inside is h w =
    elim (cases_eq w k) [
      | inl same ↦ rw (same, get_or-set_same now k word 0 inside, lt-ltb k (k + 1) (omega arith)) is
      | inr other ↦ get_or-set_other now k w word 0 other ∙ h w ∙ rw (below-suc w k, ne_eqb w k other, or-false (ltb w k)) refl
    ]

-- when all words are written, each has its value, where that of a word past the end is 0
pub all_written : (value : ℕ → ℕ) (row now : List ℕ) (k : ℕ) → length row ≤ k → ((w : ℕ) → length row ≤ w → value w ≡ 0)
    → ((w : ℕ) → get_or now w 0 ≡ written value row k w) → (w : ℕ) → get_or now w 0 ≡ value w
unfolding written
all_written value row now k done past h w =
    elim (cases_lt w k) [
      | inl less ↦ h w ∙ rw (lt-ltb w k less) refl
      | inr more ↦ h w ∙ rw (le-ltb w k more) (get_or_past row w 0 (omega (arith, done, more)) ∙ sym (past w (omega (arith, done, more))))
    ]

-- past a row there is no bit in it and another word
pub meet_past : (row : List ℕ) (other w : ℕ) → length row ≤ w → bit_and (get_or row w 0) other ≡ 0
meet_past row other w past = rw (get_or_past row w 0 past) (and_zero_l other)

-- the numbers that two rows have in common
pub has_meet : (one other now : List ℕ) → ((w : ℕ) → get_or now w 0 ≡ bit_and (get_or one w 0) (get_or other w 0))
    → (y : ℕ) → has now y ≡ (has one y && has other y)
unfolding has
has_meet one other now h y = rw (h (y / 64)) (bit_meet (get_or one (y / 64) 0) (get_or other (y / 64) 0) (y % 64))

-- the numbers that one row has and another has not
pub has_part : (row other now : List ℕ) → ((w : ℕ) → get_or other w 0 < 2 ^ 64)
    → ((w : ℕ) → get_or now w 0 ≡ bit_and (get_or row w 0) (bit_not w64 (get_or other w 0)))
    → (y : ℕ) → has now y ≡ (has row y && not (has other y))
unfolding has
has_part row other now fits h y =
    let word : ℕ = get_or other (y / 64) 0 in
    rw (h (y / 64))
    (bit_meet (get_or row (y / 64) 0) (bit_not w64 word) (y % 64)
    ∙ ap (λ b. bit_of (get_or row (y / 64) 0) (y % 64) && b) (bit_other word (y % 64) (fits (y / 64)) (omega arith)))

-- without a row, and then without its number
pub drop_both : (a c e : Bool) → ((a && not c) && not e) ≡ (a && not (e || c))
drop_both true true true = refl
drop_both true true false = refl
drop_both true false true = refl
drop_both true false false = refl
drop_both false c e = refl

-- past two rows of one length there is no bit in either word
pub join_past : (row other : List ℕ) (w : ℕ) → length other ≡ length row → length row ≤ w → bit_or (get_or row w 0) (get_or other w 0) ≡ 0
join_past row other w same past = rw (get_or_past row w 0 past, get_or_past other w 0 (omega (arith, same, past))) refl

-- the numbers that one of two rows has
pub has_join : (row other now : List ℕ) → ((w : ℕ) → get_or now w 0 ≡ bit_or (get_or row w 0) (get_or other w 0))
    → (y : ℕ) → has now y ≡ (has row y || has other y)
unfolding has
has_join row other now h y = rw (h (y / 64)) (bit_join (get_or row (y / 64) 0) (get_or other (y / 64) 0) (y % 64))

-- with a row, and then with its number
pub put_both : (a c e : Bool) → ((a || c) || e) ≡ (a || (e || c))
put_both true c e = refl
put_both false true e = sym (or-true e)
put_both false false e = sym (or-false e)
