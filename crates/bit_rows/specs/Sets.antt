-- Sets that know which words of their rows have a number.
use Rattle.std.specs.Prelude.{ℕ, ◌/◌, ◌<◌, ◌≤◌, List, length, IsTrue}
use Rattle.bit_rows.specs.Rows.{bit_of, has}

-- the word has a bit for each word of the row that has a number, and for no word past the row
pub record HasSummary (row : List ℕ) (some : ℕ) : Type 0 where
  pub few : length row ≤ 64
  pub told : (y : ℕ) → IsTrue (has row y) → IsTrue (bit_of some (y / 64))
  pub within : (k : ℕ) → IsTrue (bit_of some k) → k < length row
