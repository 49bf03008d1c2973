-- Numbers of words, one digit more.
use Rattle.std.proofs.Common.{◌≡◌, ◌<◌, ◌≤◌, ℕ, ◌+◌, List, [], ◌∷◌, length, get_or, drop, Option, None, Some, option_and_then, cond, refl, ap, ◌∙◌, ◌++◌, arith}
use Rattle.std.proofs.Math.Numerals.{add-one}
use Rattle.std.proofs.lemmas.List.{drop_more, drop_all}
use Rattle.msc_answer.specs.Importing.{gives_round, number_behind, number_of, rounds_below, with_digit}

behind_cons : (n b : ℕ) (bs : List ℕ) → number_behind n (b ∷ bs) ≡ option_and_then (λ m. number_behind m bs) (with_digit n b)
unfolding number_behind
behind_cons n b bs = refl

behind_none : (n : ℕ) → number_behind n [] ≡ Some n
unfolding number_behind
behind_none n = refl

module _ (bs : List ℕ) (i n : ℕ) where
  -- one digit more
  pub number_more : (found : Option ℕ) → i < length bs → with_digit n (get_or bs i 0) ≡ found → number_behind n (drop i bs) ≡ option_and_then (λ m. number_behind m (drop (i + 1) bs)) found
  number_more found inside e =
      ap (number_behind n) (drop_more bs i 0 inside) ∙ behind_cons n (get_or bs i 0) (drop (i + 1) bs)
      ∙ ap (option_and_then (λ m. number_behind m (drop (i + 1) bs))) e

  pub number_end : length bs ≤ i → number_behind n (drop i bs) ≡ Some n
  number_end over = ap (number_behind n) (drop_all i bs over) ∙ behind_none n

-- the number of a text is that of its digits, where there are some
pub number_some : (bs : List ℕ) → 0 < length bs → number_of bs ≡ number_behind 0 bs
unfolding number_of
number_some [] some = absurd (omega (arith, some))
number_some (b ∷ bs) some = refl

pub number_empty : (bs : List ℕ) → length bs ≡ 0 → number_of bs ≡ None
unfolding number_of
number_empty [] none = refl
number_empty (b ∷ bs) none = absurd (omega (arith, none))

-- no number of rounds is below 0, and one more may be below the next
pub no_rounds : (word : List ℕ) → rounds_below word 0 ≡ []
unfolding rounds_below
no_rounds word = refl

pub next_rounds : (word : List ℕ) (n : ℕ) → rounds_below word (n + 1) ≡ rounds_below word n ++ cond (gives_round word n) (n ∷ []) []
unfolding rounds_below
next_rounds word n = rw (add-one n) refl
