-- The arrow below a comment.
use Rattle.std.specs.Prelude.{ℕ, Bool, ◌&&◌, List, Option, nat_lt}
use Rattle.std.specs.List.{position}
use Rattle.msc_mermaid.specs.Reading.{is_arrow}
use Rattle.msc_mermaid.specs.declared.statement.Placed.{Placed}

-- it is an arrow that begins behind this place
abbrev pub is_below : ℕ → Placed → Bool
is_below place placed = is_arrow placed.statement && nat_lt place placed.whole.first

-- which statement is the first arrow that begins behind a place
unfoldable pub arrow_below : List Placed → ℕ → Option ℕ
arrow_below statements place = position (is_below place) statements
