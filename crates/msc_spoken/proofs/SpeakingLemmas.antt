-- Which blanks of a text stay.
use Rattle.std.proofs.Common.{◌≡◌, ◌<◌, ◌≤◌, ℕ, zero, suc, ◌+◌, ◌-◌, ◌&&◌, add-one, ⊎_elim, get_or-drop, Bool, true, false, cond, List, [], ◌∷◌, ◌++◌, length, get_or, take, drop, slice_index, refl, sym, ap, ◌∙◌, append_assoc, arith}
use Rattle.std.proofs.lemmas.List.{append-nil, drop_more, drop_all, take_rest}
use Rattle.std.proofs.lemmas.Bool.{cases_lt}
use Rattle.std.proofs.lemmas.List.Sums.{prefix_len_stops}
use Rattle.std.specs.List.{prefix_len}
use Rattle.msc_spoken.specs.Speaking.{after_blanks, ends_word, is_blank, is_left_out, last_blanks, single_blanks, spoken_text}
use Rattle.msc_spoken.specs.Laws.{HasSingleBlanks, SpokenHasSingleBlanks}

none_last : last_blanks [] ≡ []
unfolding last_blanks
none_last = refl

first_last : (c : ℕ) (cs : List ℕ) → last_blanks (c ∷ cs) ≡ cond (is_left_out (c ∷ cs)) (last_blanks cs) (c ∷ last_blanks cs)
unfolding last_blanks
first_last c cs = refl

-- what a loop over the characters keeps: what it put so far, and what stays of the rest, are all
module _ (cs : List ℕ) (i : ℕ) (put all : List ℕ) (kept : put ++ last_blanks (drop i cs) ≡ all) where
  one_more : (b : Bool) (c : ℕ) → drop i cs ≡ c ∷ drop (i + 1) cs → b ≡ is_left_out (take (length cs - i) (drop i cs)) → last_blanks (drop i cs) ≡ cond b (last_blanks (drop (i + 1) cs)) (c ∷ last_blanks (drop (i + 1) cs))
  one_more b c here is =
      let same : b ≡ is_left_out (c ∷ drop (i + 1) cs) = is ∙ ap is_left_out (take_rest cs i ∙ here) in
      ap last_blanks here ∙ first_last c (drop (i + 1) cs) ∙ ap (λ t. cond t (last_blanks (drop (i + 1) cs)) (c ∷ last_blanks (drop (i + 1) cs))) (sym same)

  pub keeps_left_out : (put' : List ℕ) → i < length cs → true ≡ is_left_out (take (length cs - i) (drop i cs)) → put' ≡ put → put' ++ last_blanks (drop (i + 1) cs) ≡ all
  keeps_left_out put' inside is same =
      ap (λ p. p ++ last_blanks (drop (i + 1) cs)) same ∙ ap (λ x. put ++ x) (sym (one_more true (get_or cs i 0) (drop_more cs i 0 inside) is)) ∙ kept

  pub keeps_put : (put' : List ℕ) (c : ℕ) → i < length cs → c ≡ get_or cs i c → false ≡ is_left_out (take (length cs - i) (drop i cs)) → put' ≡ put ++ c ∷ [] → put' ++ last_blanks (drop (i + 1) cs) ≡ all
  keeps_put put' c inside at is more =
      ap (λ p. p ++ last_blanks (drop (i + 1) cs)) more ∙ append_assoc put (c ∷ []) (last_blanks (drop (i + 1) cs)) ∙ ap (λ x. put ++ x) (sym (one_more false c (drop_more cs i c inside ∙ ap (λ x. x ∷ drop (i + 1) cs) (sym at)) is)) ∙ kept

  pub keeps_all : length cs ≤ i → put ≡ all
  keeps_all over = sym (append-nil put) ∙ ap (λ x. put ++ x) (sym (ap last_blanks (drop_all i cs over) ∙ none_last)) ∙ kept

-- a text that begins with no blank begins so without its other blanks
first_kept : (cs : List ℕ) → ends_word cs ≡ false → ends_word (last_blanks cs) ≡ false
unfolding last_blanks
first_kept [] apart = absurd cc
first_kept (c ∷ cs) apart = rw apart apart

second_false : (a b : Bool) → a ≡ true → (a && b) ≡ false → b ≡ false
second_false true b first neither = neither
second_false false b first neither = absurd cc

-- if there is a blank at i, another character is behind it, and it is none
abbrev Apart : List ℕ → ℕ → Type 0
Apart xs i = is_blank (slice_index xs i) ≡ true → (suc i < length xs) × (is_blank (slice_index xs (suc i)) ≡ false)

put_before : (c : ℕ) (xs : List ℕ) → (is_blank c ≡ true → ends_word xs ≡ false) → ((i : ℕ) → Apart xs i) → (i : ℕ) → Apart (c ∷ xs) i
put_before c [] next rest zero blank = let none = next blank in absurd cc
put_before c (x ∷ xs) next rest zero blank = (omega arith, next blank)
put_before c xs next rest (suc i) blank = let there = rest i blank in (omega (arith, there.0), there.1)

apart_by : (c : ℕ) (cs : List ℕ) (out : Bool) → is_left_out (c ∷ cs) ≡ out → ((i : ℕ) → Apart (last_blanks cs) i) → (i : ℕ) → Apart (cond out (last_blanks cs) (c ∷ last_blanks cs)) i
apart_by c cs true is rest i = rest i
apart_by c cs false is rest i =
    put_before c (last_blanks cs) (λ blank. first_kept cs (second_false (is_blank c) (ends_word cs) blank is)) rest i

blanks_apart : (cs : List ℕ) (i : ℕ) → Apart (last_blanks cs) i
unfolding last_blanks
blanks_apart [] i = λ blank. absurd cc
blanks_apart (c ∷ cs) i = apart_by c cs (is_left_out (c ∷ cs)) refl (blanks_apart cs) i

-- no blank is at the beginning
first_not_blank : (xs : List ℕ) → is_blank (slice_index (after_blanks xs) 0) ≡ false
first_not_blank xs =
    let n = prefix_len is_blank xs in
    ⊎_elim
    (λ inside.
    let there : n + 0 ≡ n = omega arith in
    ap is_blank (get_or-drop n xs 0 0) ∙ ap (λ k. is_blank (get_or xs k 0)) there ∙ prefix_len_stops is_blank xs 0 inside)
    (λ over. ap (λ ys. is_blank (slice_index ys 0)) (drop_all n xs over))
    (cases_lt n (length xs))

first_stays : (cs : List ℕ) → is_blank (slice_index cs 0) ≡ false → is_blank (slice_index (last_blanks cs) 0) ≡ false
unfolding last_blanks
first_stays [] none = none
first_stays (c ∷ cs) none = rw none none

single : (xs : List ℕ) → HasSingleBlanks (single_blanks xs)
unfolding single_blanks
single xs = record {
  first = first_stays (after_blanks xs) (first_not_blank xs);
  others = λ i. rw (add-one i) (blanks_apart (after_blanks xs) i);
}

pub single_blanks_lem : SpokenHasSingleBlanks
unfolding spoken_text
single_blanks_lem bytes = single _
