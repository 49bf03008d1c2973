-- Tables of pairs of numbers: rows of bits of one length, one after the other.
use Rattle.std.specs.Prelude.{ℕ, ◌+◌, ◌*◌, ◌≤◌, Bool, ◌&&◌, ◌||◌, List, length, nat_eq, nat_lt}
use Rattle.bit_rows.specs.Rows.{has, word_count}

-- the table has the pair (x, y): row x has y, where each row has a bit for each number below n
unfoldable pub cell : ℕ → List ℕ → ℕ → ℕ → Bool
cell n words x y = nat_lt y (64 * word_count n) && has words (64 * (x * word_count n) + y)

-- the words reach to the end of row x
abbrev pub HasRow : ℕ → List ℕ → ℕ → Type 0
HasRow n words x = x * word_count n + word_count n ≤ length words

-- row e takes in row f, and f itself where it is wanted
unfoldable pub with_row : (ℕ → ℕ → Bool) → ℕ → ℕ → Bool → ℕ → ℕ → Bool
with_row test e f wanted x y = test x y || (nat_eq x e && ((wanted && nat_eq y f) || test f y))
