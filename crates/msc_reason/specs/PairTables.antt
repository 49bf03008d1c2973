-- Tables of pairs of a chart's events.
use Rattle.std.specs.Prelude.{◌≡◌, ℕ, ◌*◌, Bool, ◌&&◌, List, length, nat_lt}
use Rattle.bit_rows.specs.Rows.{word_count}
use Rattle.bit_rows.specs.Tables.{cell}

-- for each of so many events a row of bits, one for each event
pub record PairTable : Type 0 where
  pub events : ℕ
  pub cells : List ℕ

-- these two
abbrev pub pair_table : ℕ → List ℕ → PairTable
pair_table events cells = record { events = events; cells = cells }

-- the table has the pair (x, y)
unfoldable pub has_pair : PairTable → ℕ → ℕ → Bool
has_pair t x y = nat_lt x t.events && (nat_lt y t.events && cell t.events t.cells x y)

-- it has a row for each event
abbrev pub IsSquare : PairTable → Type 0
IsSquare t = length t.cells ≡ t.events * word_count t.events
