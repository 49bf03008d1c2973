-- LINK, cut at its arrows.
use Rattle.std.proofs.Common.{◌≡◌, ℕ, ◌+◌, ◌-◌, Bool, true, false, not, cond, List, [], ◌∷◌, length, take, drop, get_or, refl, ap, ◌∙◌, arith, position, Some, None, nat_lt}
use Rattle.std.specs.List.{slice_split, onto_first, position_or_len}
use Rattle.std.proofs.lemmas.List.{length-drop, take_all}
use Rattle.std.proofs.lemmas.List.Sums.{prefix_len_passes}
use Rattle.std.proofs.lemmas.List.Splits.{slice_split_none, slice_split_first}
use Rattle.std.proofs.lemmas.Bool.{ltb-true, ltb-false}
use Rattle.msc_chart.proofs.ListLemmas.{by_test}
use Rattle.msc_links.specs.Blanks.{trimmed}
use Rattle.msc_links.specs.Names.{is_arrow, one_name, spelled, spelled_parts, two_names}

-- what is not true is false
untrue : (b : Bool) → not b ≡ true → b ≡ false
untrue true h = cc
untrue false h = refl

-- a text without an arrow is one part
pub split_whole : (xs : List ℕ) → position is_arrow xs ≡ None → slice_split is_arrow xs ≡ xs ∷ []
split_whole xs none =
    by_test (nat_lt (position_or_len is_arrow xs) (length xs))
    (λ found. let e : Some (position_or_len is_arrow xs) ≡ None = rw found at none in cc)
    (λ past.
    let beyond = ltb-false (position_or_len is_arrow xs) (length xs) past in
    slice_split_none is_arrow xs (λ k d inside. untrue (is_arrow (get_or xs k d)) (prefix_len_passes (λ b. not (is_arrow b)) xs k d (omega (arith, beyond, inside)))))

-- the first part of a text with an arrow ends there
pub split_first : (xs : List ℕ) (k : ℕ) → position is_arrow xs ≡ Some k
    → slice_split is_arrow xs ≡ take k xs ∷ slice_split is_arrow (drop (k + 1) xs)
split_first xs k some =
    by_test (nat_lt (position_or_len is_arrow xs) (length xs))
    (λ found.
    let e : Some (position_or_len is_arrow xs) ≡ Some k = rw found at some in
    let same : position_or_len is_arrow xs ≡ k = cc in
    slice_split_first is_arrow xs 0 (ltb-true _ _ found) ∙ rw same refl)
    (λ past. let e : None ≡ Some k = rw past at some in cc)

-- three parts are no link
pub too_many : (a b : List ℕ) (xs : List ℕ) → spelled_parts (a ∷ b ∷ slice_split is_arrow xs) ≡ None
too_many a b [] = refl
too_many a b (x ∷ xs) =
    elim (is_arrow x) as (λ v. spelled_parts (a ∷ b ∷ cond v ([] ∷ slice_split is_arrow xs) (onto_first x (slice_split is_arrow xs))) ≡ None) [
      | true ↦ refl
      | false ↦ elim (slice_split is_arrow xs) as (λ parts. spelled_parts (a ∷ b ∷ onto_first x parts) ≡ None) [
        | [] ↦ refl
        | part ∷ parts ↦ refl
      ]
    ]

-- a text after its first n bytes, as the code takes it
after : (xs : List ℕ) (n : ℕ) → take (length xs - n) (drop n xs) ≡ drop n xs
after xs n = take_all (length xs - n) (drop n xs) (omega (arith, length-drop n xs))

-- LINK without an arrow is one name
pub spelled_one : (xs : List ℕ) → position is_arrow xs ≡ None → spelled xs ≡ one_name (trimmed xs)
unfolding spelled
spelled_one xs none = ap spelled_parts (split_whole xs none)

-- LINK with one arrow is two names
pub spelled_two : (xs : List ℕ) (k : ℕ) → position is_arrow xs ≡ Some k
    → position is_arrow (take (length xs - (k + 1)) (drop (k + 1) xs)) ≡ None
    → spelled xs ≡ two_names (trimmed (take k xs)) (trimmed (take (length xs - (k + 1)) (drop (k + 1) xs)))
unfolding spelled
spelled_two xs k some none =
    let rest = after xs (k + 1) in
    rw (rest, split_first xs k some, split_whole (drop (k + 1) xs) (rw rest at none)) refl

-- LINK with more arrows is no link
pub spelled_more : (xs : List ℕ) (k j : ℕ) → position is_arrow xs ≡ Some k
    → position is_arrow (take (length xs - (k + 1)) (drop (k + 1) xs)) ≡ Some j
    → spelled xs ≡ None
unfolding spelled
spelled_more xs k j some more =
    rw (split_first xs k some, split_first (drop (k + 1) xs) j (rw (after xs (k + 1)) at more)) (too_many (take k xs) (take j (drop (k + 1) xs)) (drop (j + 1) (drop (k + 1) xs)))
