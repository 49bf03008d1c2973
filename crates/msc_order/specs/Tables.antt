-- Tables of truth values for pairs of numbers, as contracts see them.
use Rattle.std.specs.Prelude.{ℕ, Bool, false, List, [], get_or, map}
use Rattle.std.specs.List.{range_with_len}

-- a row of truth values for each number
abbrev pub Table : Type 0
Table = List (List Bool)

-- whether a table has a pair
unfoldable pub orders : Table → ℕ → ℕ → Bool
orders table e f = get_or (get_or table e []) f false

-- the table of a test, for the numbers below n
unfoldable pub table_of : ℕ → (ℕ → ℕ → Bool) → Table
table_of n test = map (λ e. map (λ f. test e f) (range_with_len 0 n)) (range_with_len 0 n)
