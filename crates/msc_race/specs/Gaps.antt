-- The zeros of a row of bits, and the pairs that an order leaves open.
use Rattle.std.specs.Prelude.{ℕ, Bool, ◌&&◌, not, List, nat_le}
use Rattle.bit_rows.specs.Rows.{has}
use Rattle.msc_order.specs.Tables.{Table, orders}

-- f is not below start, and the row has it not
unfoldable pub is_gap : List ℕ → ℕ → ℕ → ℕ → Bool
is_gap row start e f = nat_le start f && not (has row f)

-- f is not below start, and the order does not have e before it
unfoldable pub is_open : Table → ℕ → ℕ → ℕ → Bool
is_open order start e f = nat_le start f && not (orders order e f)
