-- How many characters begin before a column, and where a window begins.
use Rattle.std.proofs.Common.{◌≡◌, ◌<◌, ◌≤◌, ℕ, ◌+◌, ◌-◌, false, cond, nat_eq, List, [], ◌∷◌, length, get_or, drop, refl, sym, ap, ◌∙◌, arith, Bool, nat_le, nat_lt, ◌&&◌, ⊎_elim, inl, inr, ◌⊎◌, true}
use Rattle.std.proofs.lemmas.Bool.{cond-false}
use Rattle.std.proofs.lemmas.Bool.Decides.{nat_tests}
use Rattle.std.proofs.lemmas.List.{drop_more, drop_all}
use Rattle.msc_spoken.specs.Cutting.{width_of}
use Rattle.msc_diagnostic.specs.Windows.{around, beginning, moved, window_begin}
use Rattle.msc_diagnostic.specs.Laws.{WindowsHoldTheirMarks}

nothing_left : (column : ℕ) → beginning column [] ≡ 0
unfolding beginning
nothing_left column = refl

first_begins : (column c : ℕ) (cs : List ℕ) → beginning column (c ∷ cs) ≡ cond (nat_eq column 0) 0 (1 + beginning (column - width_of c) cs)
unfolding beginning
first_begins column c cs = refl

-- none begins before column 0
pub none_begins : (cs : List ℕ) → beginning 0 cs ≡ 0
none_begins [] = nothing_left 0
none_begins (c ∷ cs) = first_begins 0 c cs

first_counts : (column c : ℕ) (cs : List ℕ) → ¬ (column ≡ 0) → beginning column (c ∷ cs) ≡ 1 + beginning (column - width_of c) cs
first_counts column c cs some =
    let test : nat_eq column 0 ≡ false = grind (arith, nat_tests) in
    first_begins column c cs ∙ cond-false _ _ _ test

module _ (column : ℕ) (cs : List ℕ) (i : ℕ) where
  -- one character more begins before the column
  pub one_begins : (c w : ℕ) → i < length cs → c ≡ get_or cs i c → w ≡ width_of c → ¬ (column ≡ 0) → beginning column (drop i cs) ≡ 1 + beginning (column - w) (drop (i + 1) cs)
  one_begins c w inside here is some =
      let next = drop_more cs i c inside ∙ ap (λ x. x ∷ drop (i + 1) cs) (sym here) in
      ap (beginning column) next ∙ first_counts column c (drop (i + 1) cs) some ∙ ap (λ x. 1 + beginning (column - x) (drop (i + 1) cs)) (sym is)

  -- no character is left
  pub end_begins : length cs ≤ i → beginning column (drop i cs) ≡ 0
  end_begins over = ap (beginning column) (drop_all i cs over) ∙ nothing_left column

-- a window is whole, is where it was, or is moved
by_cases : (P : ℕ → Type 0) (total column last : ℕ) → (total ≤ 100 → P 0)
    → (100 < total → (around total column < last - 100) → last - 100 ≤ column → P (last - 100))
    → (100 < total → ((last - 100 ≤ around total column) ⊎ (column < last - 100)) → P (around total column))
    → P (window_begin total column last)
by_cases P total column last whole later as_it_was = choose (nat_le total 100) refl
  where
    move : (100 < total) → (a b : Bool) → nat_lt (around total column) (last - 100) ≡ a → nat_le (last - 100) column ≡ b → P (cond (a && b) (last - 100) (around total column))
    move long true true less within = later long (grind (arith, nat_tests)) (grind (arith, nat_tests))
    move long true false less within = as_it_was long (inr (grind (arith, nat_tests)))
    move long false b less within = as_it_was long (inl (grind (arith, nat_tests)))

    choose : (b : Bool) → nat_le total 100 ≡ b → P (cond b 0 (moved column last (around total column)))
    choose true short = whole (grind (arith, nat_tests))
    choose false long = move (grind (arith, nat_tests)) (nat_lt (around total column) (last - 100)) (nat_le (last - 100) column) refl refl

pub windows_lem : WindowsHoldTheirMarks
windows_lem = record {
  first = λ total column last on_line.
      by_cases (λ begin. (begin ≤ column) × (column < begin + 100)) total column last
      (λ short. (omega arith, omega arith))
      (λ long less within. (omega arith, omega arith))
      (λ long why. (omega arith, omega arith));
  all = λ total column last long fit.
      by_cases (λ begin. last ≤ begin + 100) total column last (λ short. omega arith) (λ long less within. omega arith)
      (λ long why. ⊎_elim (λ le. omega arith) (λ more. omega arith) why);
  full = λ total column last long within.
      by_cases (λ begin. begin + 100 ≤ total) total column last (λ short. omega arith) (λ long less fit. omega arith) (λ long why. omega arith);
}
