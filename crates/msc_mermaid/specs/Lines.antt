-- The lines of a text, and what columns are.
use Rattle.std.specs.Prelude.{ℕ, ◌+◌, ◌-◌, ◌^◌, Bool, true, false, cond, ◌||◌, ◌==◌, nat_eq, nat_lt, min, List, [], ◌∷◌, ◌++◌, length, get_or, take, drop, count_by}
use Rattle.std.specs.List.{starts_with}
use Rattle.msc_place.specs.declared.position.Position.{Position}

-- the text behind its byte order mark, if it has one
abbrev pub behind_mark : List ℕ → List ℕ
behind_mark text =
    cond (starts_with nat_eq text (239 ∷ 187 ∷ 191 ∷ [])) (drop 3 text) text

-- the first of some lines gets these bytes in front
abbrev pub led_by : List ℕ → List (List ℕ) → List (List ℕ)
led_by front [] = front ∷ []
led_by front (l ∷ ls) = (front ++ l) ∷ ls

-- The lines of what follows in a text, behind a CR or not. A CR, a LF, and a CR with a LF each end a
-- line; behind the last of them there is one more line.
unfoldable pub lines_behind : Bool → List ℕ → List (List ℕ)
lines_behind cr [] = [] ∷ []
lines_behind cr (b ∷ bs) =
    cond (b == 13) ([] ∷ lines_behind true bs) (cond (b == 10) (cond cr (lines_behind false bs) ([] ∷ lines_behind false bs)) (led_by (b ∷ []) (lines_behind false bs)))

-- the lines of a text
abbrev pub lines_of : List ℕ → List (List ℕ)
lines_of text = lines_behind false (behind_mark text)

-- Where the lines of what follows in a text begin, behind a CR or not, if so many bytes stand before it: how many
-- bytes of the text stand before each.
unfoldable pub starts_behind : ℕ → Bool → List ℕ → List ℕ
starts_behind at cr [] = at ∷ []
starts_behind at cr (b ∷ bs) =
    cond (b == 13) (at ∷ starts_behind (at + 1) true bs) (cond (b == 10) (cond cr (starts_behind (at + 1) false bs) (at ∷ starts_behind (at + 1) false bs)) (at ∷ drop 1 (starts_behind (at + 1) false bs)))

-- where the lines of a text begin
abbrev pub starts_of : List ℕ → List ℕ
starts_of text = starts_behind (length text - length (behind_mark text)) false (behind_mark text)

-- where the line of a number begins, from 1
abbrev pub start_on : List ℕ → ℕ → ℕ
start_on starts line = get_or starts (line - 1) 0

-- a place in a text, so many bytes further on: no text has more bytes than a machine counts
unfoldable pub further : ℕ → ℕ → ℕ
further place count = min (place + count) (2 ^ 64 - 1)

-- a byte that is counted in columns: no continuation byte of UTF-8
abbrev pub is_counted : ℕ → Bool
is_counted b = nat_lt b 128 || nat_lt 191 b

-- the column behind these bytes of a line
abbrev pub column_behind : List ℕ → ℕ
column_behind bytes = count_by is_counted bytes + 1

-- the position in a line of these bytes of what ends it
abbrev pub position_of : ℕ → List ℕ → List ℕ → Position
position_of line whole rest =
    record { line = line; column = column_behind (take (length whole - length rest) whole) }
