-- Rows of bits for the events of a chart.
use Rattle.std.specs.Prelude.{◌≡◌, ℕ, ◌*◌, ◌≤◌, Bool, ◌&&◌, ◌||◌, List, length}
use Rattle.bit_rows.specs.Rows.{has, word_count}

-- a number of one of two rows that is in the mask too
unfoldable pub is_masked : List ℕ → List ℕ → List ℕ → ℕ → Bool
is_masked a b mask y = (has a y || has b y) && has mask y

-- a row with a bit for each number below n
pub record IsRow (n : ℕ) (row : List ℕ) : Type 0 where
  pub words : length row ≡ word_count n
  pub room : n ≤ 64 * length row
  pub few : length row ≤ 64
