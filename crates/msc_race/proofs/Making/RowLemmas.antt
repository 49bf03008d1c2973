-- What the rows of a witness hold, word by word.
use Rattle.std.proofs.Common.{◌≡◌, ℕ, ◌*◌, ◌/◌, ◌%◌, ◌<◌, ◌≤◌, ◌↔◌, Bool, true, false, not, ◌&&◌, inl, inr, eqb, ltb, List, length, get_or, sym, ap, ◌∙◌, arith, bit_or, bit_and}
use Rattle.std.proofs.lemmas.Bool.{lt-ltb, ltb-true, cases_lt}
use Rattle.std.specs.Prelude.{IsTrue}
use Rattle.bit_rows.specs.Rows.{bit_of, has, word_count, AreApartTo, IsFirstCommon, IsWithout}
use Rattle.bit_rows.proofs.Bits.{bit_join, bit_meet, words_enough, words_few}
use Rattle.bit_rows.proofs.Rows.{has_past}
use Rattle.msc_chart.specs.declared.TheConstants.{EVENT_LIMIT}
use Rattle.msc_chart.specs.Lists.{IsLeast}
use Rattle.msc_race.specs.Beginnings.{HaveCommon}
use Rattle.msc_race.specs.Rows.{is_masked, IsRow}
use Rattle.msc_race.proofs.Shared.{clash}

-- a test of numbers that reads the bits of words
module _ (p : ℕ → Bool) (word : ℕ → ℕ) (reads : (y : ℕ) → p y ≡ bit_of (word (y / 64)) (y % 64)) (k : ℕ)
    (none : (y : ℕ) → y < 64 * k → p y ≡ false) where
  -- where no word below k has a bit, the lowest bit of word k is the least number
  pub first_number : (y : ℕ) → y / 64 ≡ k → bit_of (word k) (y % 64) ≡ true → ((i : ℕ) → i < y % 64 → bit_of (word k) i ≡ false)
      → IsLeast (λ z. IsTrue (p z)) y
  first_number y here there lower = record {
    itself = reads y ∙ rw here there;
    none_below = λ z less passes.
        elim (cases_lt z (64 * k)) [
          | inl before ↦ clash passes (none z before)
          | inr after ↦
              let same : z / 64 ≡ k = omega (arith, after, less, here) in
              let low : z % 64 < y % 64 = omega (arith, after, less, here) in
              clash passes (reads z ∙ rw same (lower (z % 64) low))
        ];
  }

-- two rows have a number in common where they have a first word of such
pub has_common : (one other : List ℕ) (k : ℕ) → IsFirstCommon one other k → IsTrue (ltb k (length one)) ↔ HaveCommon one other
has_common one other k first = (
  λ within. let y = first.some (ltb-true k (length one) within) in (y.0, y.2, y.3),
  λ some. lt-ltb k (length one) (elim (cases_lt k (length one)) [
    | inl within ↦ within
    | inr past ↦ elim (cases_lt some.0 (64 * k)) [
      | inl below ↦ clash some.2 (first.apart some.0 below some.1)
      | inr above ↦ clash some.1 (has_past one some.0 (omega (arith, past, above)))
    ]
  ]),
)

-- rows that have nothing in common have not where one loses a number
pub apart_without : (one old new : List ℕ) (x k : ℕ) → AreApartTo one old k → IsWithout old new x → AreApartTo one new k
apart_without one old new x k apart without y below here = without y ∙ ap (λ b. b && not (eqb y x)) (apart y below here)

-- the word of what is picked from three rows
pub picks_word : (a b mask : List ℕ) (y : ℕ)
    → is_masked a b mask y ≡ bit_of (bit_and (bit_or (get_or a (y / 64) 0) (get_or b (y / 64) 0)) (get_or mask (y / 64) 0)) (y % 64)
unfolding is_masked has
picks_word a b mask y =
    let joined = bit_join (get_or a (y / 64) 0) (get_or b (y / 64) 0) (y % 64) in
    sym (bit_meet (bit_or (get_or a (y / 64) 0) (get_or b (y / 64) 0)) (get_or mask (y / 64) 0) (y % 64)
    ∙ ap (λ c. c && bit_of (get_or mask (y / 64) 0) (y % 64)) joined)

-- so many words are a row of few numbers
pub row_from : (n : ℕ) (row : List ℕ) → length row ≡ word_count n → n ≤ EVENT_LIMIT → IsRow n row
row_from n row size small =
    let enough = words_enough n in
    let few = words_few n in
    record { words = size; room = omega (arith, size, enough); few = omega (arith, size, few, small) }

-- a row of the same length is a row
pub row_same : (n : ℕ) (old new : List ℕ) → length new ≡ length old → IsRow n old → IsRow n new
row_same n old new same row = record { words = same ∙ row.words; room = rw same row.room; few = rw same row.few }
