-- Which events are noted in a table with a place for each.
use Rattle.std.specs.Prelude.{◌≡◌, ℕ, ◌<◌, ◌≤◌, Bool, false, List, filter, get_or, length}
use Rattle.std.specs.List.{range_with_len}

-- the events below this number that are noted in a table, ascending
abbrev pub noted : List Bool → ℕ → List ℕ
noted table many = filter (λ x. get_or table x false) (range_with_len 0 many)

-- all that is noted stands from the first number on and below the second
pub record AreWithin (table : List Bool) (low high : ℕ) : Type 0 where
  pub few : length table ≤ 4294967295
  pub inside : high ≤ length table
  pub below : (x : ℕ) → x < low → get_or table x false ≡ false
  pub above : (x : ℕ) → high ≤ x → get_or table x false ≡ false
