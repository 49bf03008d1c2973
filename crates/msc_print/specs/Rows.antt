-- The rows of pairs of events.
use Rattle.std.specs.Prelude.{ℕ, List, [], ◌∷◌, ◌++◌}
use Rattle.std.specs.List.{flat_map, range_with_len}

-- the pairs of the events below n, in order
abbrev pub below : (ℕ → List (ℕ × ℕ)) → ℕ → List (ℕ × ℕ)
below from n = flat_map from (range_with_len 0 n)

-- the rows of pairs, one after another: `row n p` is that of p at the count n, and `after n p` is the
-- count after it
abbrev pub rows_from : (ℕ → ℕ × ℕ → List ℕ) → (ℕ → ℕ × ℕ → ℕ) → ℕ → List (ℕ × ℕ) → List ℕ
rows_from row after n [] = []
rows_from row after n (p ∷ pairs) = row n p ++ rows_from row after (after n p) pairs

-- the count after these pairs
abbrev pub count_after : (ℕ → ℕ × ℕ → ℕ) → ℕ → List (ℕ × ℕ) → ℕ
count_after after n [] = n
count_after after n (p ∷ pairs) = count_after after (after n p) pairs
