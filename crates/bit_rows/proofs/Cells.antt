-- The pairs of a table, and what writes do to them.
use Rattle.std.proofs.Common.{◌≡◌, ℕ, ◌+◌, ◌-◌, ◌*◌, ◌/◌, ◌%◌, ◌^◌, ◌<◌, ◌≤◌, Bool, true, false, ◌&&◌, ◌||◌, cond, inl, inr, eqb, ltb, List, take, drop, length, get_or, set, replicate, refl, sym, ap, ◌∙◌, arith, get_or-set_same, get_or-set_other, bit_or, ◌++◌, rules}
use Rattle.std.proofs.lemmas.Bool.{lt-ltb, le-ltb, eq-eqb, ne_eqb, eqb-true, cases_lt, cases_eq}
use Rattle.std.proofs.lemmas.List.{get_or-take, get_or-drop, length-take, length-take-le, length-drop, places}
use Rattle.std.proofs.Math.Nat.{mul-le-mul_right}
use Rattle.std.proofs.lemmas.Nat.{same_from_place}
use Rattle.bit_rows.specs.Rows.{bit_of, has, word_count}
use Rattle.bit_rows.specs.Tables.{cell, with_row, HasRow}
use Rattle.std.proofs.Math.Bool.{or-false, or-true, and-false}
use Rattle.bit_rows.proofs.Bits.{by_test, words_enough, word_below, below-suc, bit_put, bit_join}
use Rattle.bit_rows.proofs.Rows.{has_at, has_past, has_blank, same_bit}

-- a cell of a column of the table
pub cell_in : (n : ℕ) (words : List ℕ) (x y : ℕ) → y < 64 * word_count n → cell n words x y ≡ bit_of (get_or words (x * word_count n + y / 64) 0) (y % 64)
unfolding cell has
cell_in n words x y h =
    let p : ℕ = x * word_count n in
    let word : (64 * p + y) / 64 ≡ p + y / 64 = omega arith in
    let bit : (64 * p + y) % 64 ≡ y % 64 = omega arith in
    rw (lt-ltb y (64 * word_count n) h, word, bit) refl

-- a cell past the last column
pub cell_out : (n : ℕ) (words : List ℕ) (x y : ℕ) → 64 * word_count n ≤ y → cell n words x y ≡ false
unfolding cell
cell_out n words x y h = rw (le-ltb y (64 * word_count n) h) refl

-- of so many rows each is there
pub row_fits : (n : ℕ) (words : List ℕ) (rows e : ℕ) → length words ≡ rows * word_count n → e < rows → HasRow n words e
row_fits n words rows e square below =
    let p : (e + 1) * word_count n ≤ rows * word_count n = mul-le-mul_right (word_count n) (omega arith) in
    let q : (e + 1) * word_count n ≡ e * word_count n + word_count n = omega arith in
    omega (arith, p, q, square)

-- a column below n stands in a word of its row
pub place_in : (n : ℕ) (words : List ℕ) (e f : ℕ) → HasRow n words e → f < n → e * word_count n + f / 64 < length words
place_in n words e f row column =
    let enough = words_enough n in
    let word : f / 64 < word_count n = word_below n f (omega (arith, enough, column)) in
    omega (arith, word, row)

-- a write of one bit
pub cell_put : (n : ℕ) (words : List ℕ) (e f x y : ℕ) → HasRow n words e → f < n
    → cell n (set words (e * word_count n + f / 64) (bit_or (get_or words (e * word_count n + f / 64) 0) (1 * 2 ^ (f % 64) % 2 ^ 64))) x y ≡ (cell n words x y || (eqb x e && eqb y f))
cell_put n words e f x y row f_below =
    let m : ℕ = word_count n in
    let place : ℕ = e * m + f / 64 in
    let word : ℕ = bit_or (get_or words place 0) (1 * 2 ^ (f % 64) % 2 ^ 64) in
    let f_in : f < 64 * m = let enough = words_enough n in omega (arith, enough, f_below) in
    let in_place : place < length words = place_in n words e f row f_below in
    elim (cases_lt y (64 * m)) [
      | inr out ↦
          let other : y ≡ f → ⊥ = λ same. omega (arith, same, out, f_in) in
          rw (cell_out n (set words place word) x y out, cell_out n words x y out, ne_eqb y f other) (sym (and-false (eqb x e)))
      | inl column ↦
          rw (cell_in n (set words place word) x y column, cell_in n words x y column)
          (elim (cases_eq (x * m + y / 64) place) [
            | inl same ↦
                let both = same_from_place x (y / 64) e (f / 64) m (word_below n y column) (word_below n f f_in) same in
                rw (same, get_or-set_same words place word 0 in_place, eq-eqb x e both.0)
                (bit_put (get_or words place 0) (f % 64) (y % 64) (omega arith)
                ∙ ap (λ b. bit_of (get_or words place 0) (y % 64) || b) (same_bit f y both.1))
            | inr other ↦
                rw (get_or-set_other words place (x * m + y / 64) word 0 other)
                (by_test (eqb x e)
                (λ same_row. by_test (eqb y f)
                (λ same_column. absurd (other (rw (eqb-true x e same_row, eqb-true y f same_column) refl)))
                (λ differs. rw (differs, and-false (eqb x e)) (sym (or-false _))))
                (λ differs. rw differs (sym (or-false _))))
          ])
    ]

-- word w of row x, while row e takes in the words of row f below k
pub merged_to : List ℕ → ℕ → ℕ → ℕ → ℕ → ℕ → ℕ → ℕ
merged_to words m e f k x w = cond (eqb x e && ltb w k) (bit_or (get_or words (x * m + w) 0) (get_or words (f * m + w) 0)) (get_or words (x * m + w) 0)

-- no word is merged yet
pub merge_start : (words : List ℕ) (m e f x w : ℕ) → get_or words (x * m + w) 0 ≡ merged_to words m e f 0 x w
unfolding merged_to
merge_start words m e f x w = rw (le-ltb w 0 (omega arith), and-false (eqb x e)) refl

-- one word more is merged
pub merge_step : (words now : List ℕ) (m e f k : ℕ) → e * m + k < length now → k < m
    → ((x w : ℕ) → w < m → get_or now (x * m + w) 0 ≡ merged_to words m e f k x w)
    → (x w : ℕ) → w < m → get_or (set now (e * m + k) (bit_or (get_or now (e * m + k) 0) (get_or now (f * m + k) 0))) (x * m + w) 0 ≡ merged_to words m e f (k + 1) x w
unfolding merged_to
merge_step words now m e f k inside k_below h x w w_below =
    let word : ℕ = bit_or (get_or now (e * m + k) 0) (get_or now (f * m + k) 0) in
    let e_same : get_or now (e * m + k) 0 ≡ get_or words (e * m + k) 0 = h e k k_below ∙ rw (le-ltb k k (omega arith), and-false (eqb e e)) refl in
    let f_same : get_or now (f * m + k) 0 ≡ get_or words (f * m + k) 0 = h f k k_below ∙ rw (le-ltb k k (omega arith), and-false (eqb f e)) refl in
    elim (cases_eq (x * m + w) (e * m + k)) [
      | inl same ↦
          let both = same_from_place x w e k m w_below k_below same in
          rw (same, get_or-set_same now (e * m + k) word 0 inside, eq-eqb x e both.0, lt-ltb w (k + 1) (omega (arith, both.1)), e_same, f_same)
          (rw both.1 refl)
      | inr other ↦
          get_or-set_other now (e * m + k) (x * m + w) word 0 other ∙ h x w w_below
          ∙ by_test (eqb x e)
          (λ same_row.
          let apart : w ≡ k → ⊥ = λ e'. other (rw (eqb-true x e same_row, e') refl) in
          rw (below-suc w k, ne_eqb w k apart, or-false (ltb w k)) refl)
          (λ differs. rw differs refl)
    ]

-- the bits of the rows when all words are merged
pub merge_end : (n : ℕ) (words now : List ℕ) (e f : ℕ)
    → ((x w : ℕ) → w < word_count n → get_or now (x * word_count n + w) 0 ≡ merged_to words (word_count n) e f (word_count n) x w)
    → (x y : ℕ) → cell n now x y ≡ (cell n words x y || (eqb x e && cell n words f y))
unfolding merged_to
merge_end n words now e f h x y =
    let m : ℕ = word_count n in
    elim (cases_lt y (64 * m)) [
      | inr out ↦ rw (cell_out n now x y out, cell_out n words x y out, cell_out n words f y out) (sym (and-false (eqb x e)))
      | inl column ↦
          rw (cell_in n now x y column, cell_in n words x y column, cell_in n words f y column, h x (y / 64) (word_below n y column), lt-ltb (y / 64) m (word_below n y column))
          (by_test (eqb x e)
          (λ same. rw same (bit_join (get_or words (x * m + y / 64) 0) (get_or words (f * m + y / 64) 0) (y % 64)))
          (λ differs. rw differs (sym (or-false (bit_of (get_or words (x * m + y / 64) 0) (y % 64))))))
    ]

-- taking in a row, and then its number where it is wanted
pub take_both : (test : ℕ → ℕ → Bool) (e f : ℕ) (wanted : Bool) (now last : ℕ → ℕ → Bool)
    → ((x y : ℕ) → now x y ≡ (test x y || (eqb x e && test f y)))
    → (wanted ≡ true → (x y : ℕ) → last x y ≡ (now x y || (eqb x e && eqb y f)))
    → (wanted ≡ false → (x y : ℕ) → last x y ≡ now x y)
    → (x y : ℕ) → last x y ≡ with_row test e f wanted x y
unfolding with_row
take_both test e f true now last merged put kept x y = put refl x y ∙ rw (merged x y) (bits (test x y) (eqb x e) (test f y) (eqb y f))
  where
    -- whether the two are taken in one after the other or both at once is the same
    bits : (a b t d : Bool) → ((a || (b && t)) || (b && d)) ≡ (a || (b && (d || t)))
    bits true b t d = refl
    bits false false t d = refl
    bits false true true d = sym (or-true d)
    bits false true false d = sym (or-false d)
take_both test e f false now last merged put kept x y = kept refl x y ∙ merged x y

-- the words cut out for a row have its numbers
pub row_numbers : (n : ℕ) (words : List ℕ) (e : ℕ) → HasRow n words e
    → (y : ℕ) → has (take (word_count n) (take (length words - e * word_count n) (drop (e * word_count n) words))) y ≡ cell n words e y
unfolding has
row_numbers n words e row y =
    let m : ℕ = word_count n in
    let cut : List ℕ = take m (take (length words - e * m) (drop (e * m) words)) in
    elim (cases_lt y (64 * m)) [
      | inr out ↦
          let size : length cut ≤ m = let l = length-take m (take (length words - e * m) (drop (e * m) words)) in omega (arith, l) in
          has_past cut y (omega (arith, out, size)) ∙ sym (cell_out n words e y out)
      | inl column ↦
          let word : y / 64 < m = word_below n y column in
          let short : y / 64 < length words - e * m = omega (arith, word, row) in
          let same : get_or cut (y / 64) 0 ≡ get_or words (e * m + y / 64) 0 =
          get_or-take m (take (length words - e * m) (drop (e * m) words)) (y / 64) 0 word ∙ get_or-take (length words - e * m) (drop (e * m) words) (y / 64) 0 short
          ∙ get_or-drop (e * m) words (y / 64) 0 in
          ap (λ w. bit_of w (y % 64)) same ∙ sym (cell_in n words e y column)
    ]

-- word w of row x, where the words of row e are written anew
row_written : (m e x w k : ℕ) (words new : List ℕ) → e * m + m ≤ length words → length new ≡ m → k ≡ m → w < m
    → get_or (take (e * m) words ++ (new ++ drop k (drop (e * m) words))) (x * m + w) 0 ≡ cond (eqb x e) (get_or new w 0) (get_or words (x * m + w) 0)
row_written m e x w k words new fits size all below =
    elim (cases_eq x e) [
      | inl same ↦ rw (same, eq-eqb e e refl) (search (rules, places))
      | inr other ↦ elim (cases_lt x e) [
        | inl before ↦
            let p : (x + 1) * m ≤ e * m = mul-le-mul_right m (omega (arith, before)) in
            let q : x * m + w < e * m = omega (arith, p, below) in
            rw (ne_eqb x e other) (search (rules, places))
        | inr past ↦
            let p : (e + 1) * m ≤ x * m = mul-le-mul_right m (omega (arith, past, other)) in
            let q : e * m + m ≤ x * m + w = omega (arith, p) in
            rw (ne_eqb x e other) (search (rules, places))
      ]
    ]

-- the part of a table that is row e is as long as a row
pub part_length : (n e k : ℕ) (words : List ℕ) → HasRow n words e → k ≡ word_count n → length (take k (drop (e * word_count n) words)) ≡ word_count n
part_length n e k words fits all =
    let rest = length-drop (e * word_count n) words in
    length-take-le k (drop (e * word_count n) words) (omega (arith, rest, fits, all)) ∙ all

-- a number of the part of a table that is row e
part_number : (n e k : ℕ) (words : List ℕ) (y : ℕ) → y / 64 < k
    → has (take k (drop (e * word_count n) words)) y ≡ bit_of (get_or words (e * word_count n + y / 64) 0) (y % 64)
part_number n e k words y below =
    let from : ℕ = e * word_count n in
    has_at (take k (drop from words)) y (y / 64) refl
    ∙ ap (λ w. bit_of w (y % 64)) (get_or-take k (drop from words) (y / 64) 0 below ∙ get_or-drop from words (y / 64) 0)

-- the pairs of a table whose row e takes in a row
pub row_joined : (n e k : ℕ) (words new row : List ℕ) → HasRow n words e → length new ≡ word_count n → k ≡ word_count n
    → length row ≡ word_count n → ((y : ℕ) → has new y ≡ (has (take k (drop (e * word_count n) words)) y || has row y))
    → (x y : ℕ) → cell n (take (e * word_count n) words ++ (new ++ drop k (drop (e * word_count n) words))) x y ≡ (cell n words x y || (eqb x e && has row y))
row_joined n e k words new row fits size all short h x y =
    let m : ℕ = word_count n in
    let now : List ℕ = take (e * m) words ++ (new ++ drop k (drop (e * m) words)) in
    elim (cases_lt y (64 * m)) [
      | inr out ↦ rw (cell_out n now x y out, cell_out n words x y out, has_past row y (omega (arith, out, short))) (sym (and-false (eqb x e)))
      | inl column ↦
          let below = word_below n y column in
          let inside : y / 64 < k = omega (arith, below, all) in
          rw (cell_in n now x y column, cell_in n words x y column, row_written m e x (y / 64) k words new fits size all below)
          (by_test (eqb x e)
          (λ same. rw (same, eqb-true x e same) (sym (has_at new y (y / 64) refl) ∙ h y ∙ ap (λ t. t || has row y) (part_number n e k words y inside)))
          (λ differs. rw differs (sym (or-false _))))
    ]

-- a blank table has no pair
pub cell_blank : (n size x y : ℕ) → cell n (replicate size 0) x y ≡ false
unfolding cell
cell_blank n size x y = rw (has_blank size (64 * (x * word_count n) + y)) (and-false _)
