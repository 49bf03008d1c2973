-- Where the marks of a diagram stand in its text.
use Rattle.std.specs.Prelude.{ℕ, ◌-◌, List, drop, take, nat_le, slice_get, slice_index}
use Rattle.std.specs.List.{prefix_len}
use Rattle.std.specs.Option.{option_map_or}
use Rattle.msc_arrow_marks.specs.Accepting.{Acceptance}
use Rattle.msc_mermaid.specs.Lines.{column_behind, starts_of}
use Rattle.msc_place.specs.declared.position.Position.{Position}

-- the line of a byte of a text: how many lines at the front begin at it or before it
abbrev pub line_in : List ℕ → ℕ → ℕ
line_in starts at = prefix_len (λ start. nat_le start at) starts

-- the position of a byte of a text whose lines begin at these places
abbrev pub position_in : List ℕ → List ℕ → ℕ → Position
position_in text starts at = record {
  line = line_in starts at;
  column = column_behind (drop (slice_index starts (line_in starts at - 1)) (take at text));
}

-- the position of a byte of a diagram's text
abbrev pub position_at : List ℕ → ℕ → Position
position_at text at = position_in text (starts_of text) at

-- the first byte of the mark of a number, or 0 if there is none
abbrev pub mark_first : Acceptance → ℕ → ℕ
mark_first a k = option_map_or (λ mark. mark.comment.first) (slice_get a.marks k) 0

-- the position of that mark, in a text whose lines begin at these places
abbrev pub mark_place : Acceptance → List ℕ → ℕ → Position
mark_place a starts k = position_in a.text starts (mark_first a k)

abbrev pub mark_position : Acceptance → ℕ → Position
mark_position a k = mark_place a (starts_of a.text) k
