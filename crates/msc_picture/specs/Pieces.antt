-- What stands in a row of a picture in text, and where it begins (this project's own).
use Rattle.std.specs.Prelude.{ℕ, ◌+◌, ◌-◌, ◌/◌, cond, max, min, List, [], ◌++◌, Option, None, Some, codes, length, nat_eq, nat_lt, slice_get, replicate}
use Rattle.msc_picture.specs.declared.columns.Columns.{Columns}
use Rattle.msc_picture.specs.declared.piece.Ends.{Ends}
use Rattle.msc_picture.specs.declared.piece.Ends.TheVariants.{Output, Input, Both}
use Rattle.msc_picture.specs.declared.piece.Piece.{Piece}
use Rattle.msc_picture.specs.declared.scene.Act.{Act}
use Rattle.msc_picture.specs.declared.scene.Act.TheVariants.{Sends, Takes, Does}
use Rattle.msc_picture.specs.declared.scene.Arrow.{Arrow}
use Rattle.msc_picture.specs.declared.scene.Row.{Row}
use Rattle.msc_picture.specs.declared.scene.Scene.{Scene}
use Rattle.msc_picture.specs.declared.scene.Spot.{Spot}
use Rattle.msc_picture.specs.Columns.{column, short_text}

-- no text
abbrev pub no_piece : Piece
no_piece = record { start = 0; text = [] }

-- so many dashes between two texts
abbrev pub dashed : List ℕ → ℕ → List ℕ → List ℕ
dashed before n after = (before ++ replicate n 45) ++ after

-- a text between two others, that begins at this column
abbrev pub from_column : ℕ → List ℕ → List ℕ → List ℕ → Piece
from_column start before text after = record { start = start; text = (before ++ text) ++ after }

-- a text between two others, that ends before this column
abbrev pub up_to_column : ℕ → List ℕ → List ℕ → List ℕ → Piece
up_to_column end before text after =
    record { start = end - (length text + 6); text = (before ++ text) ++ after }

-- an action on this column
abbrev pub action_piece : ℕ → List ℕ → Piece
action_piece column text = from_column (column + 1) (codes "[") (short_text text) (codes "]")

-- the arrow of a message from its output in the column a to its input in the column b, with so many
-- dashes; both are in the row
abbrev pub arrow_piece : ℕ → ℕ → ℕ → List ℕ → Piece
arrow_piece a b many label =
    cond (nat_lt a b)
    (from_column (a + 1) (dashed [] (many - many / 2) (codes " ")) label
    (dashed (codes " ") (many / 2 - 1) (codes ">")))
    (from_column (b + 1) (dashed (codes "<") (many - many / 2 - 1) (codes " ")) label
    (dashed (codes " ") (many / 2) []))

-- the dashes of such an arrow
abbrev pub dashes_between : ℕ → ℕ → List ℕ → ℕ
dashes_between a b label = (max a b - min a b) - (length label + 3)

-- an output in the column a, whose input in the column b is in another row
abbrev pub output_piece : ℕ → ℕ → List ℕ → Piece
output_piece a b label =
    cond (nat_lt b a) (up_to_column a (codes ".. ") label (codes " --"))
    (from_column (a + 1) (codes "-- ") label (codes " .."))

-- an input in the column b, whose output in the column a is in another row
abbrev pub input_piece : ℕ → ℕ → List ℕ → Piece
input_piece a b label =
    cond (nat_lt a b) (up_to_column b (codes ".. ") label (codes " ->"))
    (from_column (b + 1) (codes "<- ") label (codes " .."))

-- both ends of a message: to oneself, or to another
abbrev pub both_piece : ℕ → ℕ → Arrow → Piece
both_piece a b arrow =
    cond (nat_eq arrow.from arrow.to)
    (from_column (a + 1) (codes "<- ") arrow.label (codes " --)"))
    (arrow_piece a b (dashes_between a b arrow.label) arrow.label)

-- a message, where there is one, by what is drawn of it between two columns
abbrev pub message_piece : Columns → (ℕ → ℕ → Arrow → Piece) → Option Arrow → Piece
message_piece c draw None = no_piece
message_piece c draw (Some arrow) = draw (column c arrow.from) (column c arrow.to) arrow

-- what of a message stands in the row of its output: this, or its input too
abbrev pub ends_of : Option ℕ → Ends
ends_of None = Output
ends_of (Some input) = Both

-- what is drawn of a message of which this stands in a row
abbrev pub drawn_by : Ends → ℕ → ℕ → Arrow → Piece
drawn_by Output a b arrow = output_piece a b arrow.label
drawn_by Input a b arrow = input_piece a b arrow.label
drawn_by Both a b arrow = both_piece a b arrow

-- what an event of this instance does, where it is the first of a row
abbrev pub act_piece : Scene → Columns → ℕ → Act → Option ℕ → Piece
act_piece s c i (Sends m) second =
    message_piece c (drawn_by (ends_of second)) (slice_get s.arrows m)
act_piece s c i (Takes m) second =
    message_piece c (drawn_by Input) (slice_get s.arrows m)
act_piece s c i (Does text) second = action_piece (column c i) text

-- the same of an event, where there is one
abbrev pub spot_piece : Scene → Columns → Option Spot → Option ℕ → Piece
spot_piece s c None second = no_piece
spot_piece s c (Some spot) second = act_piece s c spot.instance spot.act second

-- what a row shows
abbrev pub row_piece : Scene → Columns → Row → Piece
row_piece s c row = spot_piece s c (slice_get s.spots row.first) row.second
