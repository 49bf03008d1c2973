-- The rows of races are what is printed of the first of them.
use Rattle.std.proofs.Common.{◌≡◌, ℕ, ◌+◌, ◌≤◌, List, [], ◌∷◌, ◌++◌, inl, inr, refl, sym, ap, ◌∙◌}
use Rattle.std.proofs.lemmas.Bool.{cases_lt, le-ltb, lt-ltb}
use Rattle.msc_print.specs.Rows.{count_after, rows_from}
use Rattle.msc_judge.specs.Rows.{first_row, next_number}
use Rattle.msc_judge.specs.Telling.{told_from}
use Rattle.msc_judge.proofs.Telling.{told_past}

module _ (most : ℕ) where
  -- past the first rows the count stays
  pub count_stays : (n : ℕ) (xs : List (ℕ × ℕ)) → most ≤ n → count_after (next_number most) n xs ≡ n
  count_stays n [] past = refl
  count_stays n (x ∷ xs) past = rw (le-ltb n most past) (count_stays n xs past)

  module _ (text : ℕ → ℕ × ℕ → List ℕ) where
    -- and there is no text
    pub rows_past : (n : ℕ) (xs : List (ℕ × ℕ)) → most ≤ n → rows_from (first_row text most) (next_number most) n xs ≡ []
    rows_past n [] past = refl
    rows_past n (x ∷ xs) past = rw (le-ltb n most past) (rows_past n xs past)

    -- so the rows are the texts of the first races
    pub rows_are_told : (n : ℕ) (xs : List (ℕ × ℕ)) → rows_from (first_row text most) (next_number most) n xs ≡ told_from text most n xs
    rows_are_told n [] = refl
    rows_are_told n (x ∷ xs) = elim (cases_lt n most) [
      | inl less ↦ rw (lt-ltb n most less) (ap (λ (t : List ℕ). text n x ++ t) (rows_are_told (n + 1) xs))
      | inr past ↦ rows_past n (x ∷ xs) past ∙ sym (told_past text most n (x ∷ xs) past)
    ]
