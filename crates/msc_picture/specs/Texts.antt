-- The picture in text (this project's own).
use Rattle.std.specs.Prelude.{ℕ, ◌+◌, ◌-◌, ◌/◌, Bool, ◌&&◌, ◌||◌, not, cond, List, [], ◌++◌, Option, None, Some, codes, fold, get_or, length, nat_eq, nat_lt, slice_get, slice_set, replicate}
use Rattle.std.specs.Fmt.{decimal}
use Rattle.std.specs.List.{flat_map, list_any, range_with_len}
use Rattle.msc_picture.specs.declared.columns.Columns.{Columns}
use Rattle.msc_picture.specs.declared.piece.Piece.{Piece}
use Rattle.msc_picture.specs.declared.scene.Band.{Band}
use Rattle.msc_picture.specs.declared.scene.RaceBar.{RaceBar}
use Rattle.msc_picture.specs.declared.scene.Row.{Row}
use Rattle.msc_picture.specs.declared.scene.Scene.{Scene}
use Rattle.msc_picture.specs.Columns.{column, columns_of, no_head}
use Rattle.msc_picture.specs.Pieces.{row_piece}
use Rattle.msc_picture.specs.Rows.{row_passes}

-- a line with a byte of a piece over it
abbrev pub with_byte : Piece → List ℕ → ℕ → List ℕ
with_byte p line k = slice_set line (p.start + k) (get_or p.text k 0)

-- a line with a piece over it
abbrev pub over : Piece → List ℕ → List ℕ
over p line = fold (with_byte p) line (range_with_len 0 (length p.text))

-- row r is one of a band
abbrev pub in_band : ℕ → Band → Bool
in_band r band = not (nat_lt r band.first) && not (nat_lt band.last r)

-- a line with an axis over it
abbrev pub with_axis : List ℕ → ℕ → List ℕ
with_axis line x = slice_set line x 124

-- a line of row r with a band over it
abbrev pub with_band : Columns → ℕ → List ℕ → Band → List ℕ
with_band c r line band =
    cond (in_band r band) (slice_set line (column c band.instance) 58) line

-- the axes, with the bands of row r over them
abbrev pub ground : Scene → Columns → ℕ → List ℕ
ground s c r =
    fold (with_band c r) (fold with_axis (replicate c.width 32) c.columns) s.bands

-- e is an event of a bar
abbrev pub is_marked : RaceBar → ℕ → Bool
is_marked bar e = list_any (nat_eq e) bar.upper || list_any (nat_eq e) bar.lower

-- the line of a row with a bar over it
abbrev pub with_bar : Columns → Row → List ℕ → RaceBar → List ℕ
with_bar c row line bar =
    cond (row_passes (is_marked bar) row) (slice_set line (column c bar.instance) 42) line

-- a second number of a row
abbrev pub second_number : Option ℕ → List ℕ
second_number None = []
second_number (Some e) = codes " " ++ decimal e

-- the numbers of the events of a row, and the end of the line
abbrev pub numbers_text : Row → List ℕ
numbers_text row = ((codes "  " ++ decimal row.first) ++ second_number row.second) ++ codes "\n"

-- the line of row r
abbrev pub row_line : Scene → Columns → ℕ → Row → List ℕ
row_line s c r row =
    fold (with_bar c row) (over (row_piece s c row) (ground s c r)) s.bars ++ numbers_text row

-- the line of row r, if there is one
abbrev pub line_at : Scene → Columns → ℕ → Option Row → List ℕ
line_at s c r None = []
line_at s c r (Some row) = row_line s c r row

-- a line with the name of instance i behind it, half its length left of its column
abbrev pub with_name : Scene → Columns → List ℕ → ℕ → List ℕ
with_name s c line i =
    let name = (get_or s.heads i no_head).name in
    (line ++ replicate (column c i - length name / 2 - length line) 32) ++ name

-- the line of the names
abbrev pub head_line : Scene → Columns → List ℕ
head_line s c = fold (with_name s c) [] (range_with_len 0 (length s.heads)) ++ codes "\n"

-- the lines of the rows
abbrev pub row_lines : Scene → Columns → List ℕ
row_lines s c =
    flat_map (λ r. line_at s c r (slice_get s.rows r)) (range_with_len 0 (length s.rows))

-- the picture in text; without instances it is an empty line
abbrev pub picture_text : Scene → List ℕ
picture_text s =
    cond (nat_eq (length s.heads) 0) (codes "\n")
    (head_line s (columns_of s) ++ row_lines s (columns_of s))
