-- Where everything in a picture stands, in pixels; a character of a label counts 8, of a number 6.
use Rattle.std.specs.Prelude.{ℕ, ◌+◌, ◌-◌, ◌*◌, ◌/◌, Bool, false, ◌&&◌, ◌||◌, cond, max, List, [], ◌∷◌, Option, None, Some, fold, get_or, length, map, nat_eq, nat_lt, slice_get}
use Rattle.std.specs.List.{range_with_len}
use Rattle.msc_picture.specs.declared.scene.Act.{Act}
use Rattle.msc_picture.specs.declared.scene.Act.TheVariants.{Sends, Takes, Does}
use Rattle.msc_picture.specs.declared.scene.Arrow.{Arrow}
use Rattle.msc_picture.specs.declared.scene.Head.{Head}
use Rattle.msc_picture.specs.declared.scene.Row.{Row}
use Rattle.msc_picture.specs.declared.scene.Scene.{Scene}
use Rattle.msc_picture.specs.declared.scene.Spot.{Spot}
use Rattle.msc_picture.specs.Columns.{no_head}
use Rattle.msc_picture.specs.Rows.{row_passes}
use Rattle.msc_svg.specs.declared.layout.Layout.{Layout}
use Rattle.msc_svg.specs.Actions.{action_box}
use Rattle.msc_svg.specs.Depths.{depths_of}

-- the number at a place, or 0 past the last
abbrev pub at : List ℕ → ℕ → ℕ
at numbers k = get_or numbers k 0

-- half the width of a head
abbrev pub head_half : Head → ℕ
head_half h = 4 * max (length h.name) (length h.kind) + 10

-- half the width of the head of instance i
abbrev pub half : Scene → ℕ → ℕ
half s i = head_half (get_or s.heads i no_head)

-- how far the box of what an event does reaches from its axis
abbrev pub act_reach : Act → ℕ
act_reach (Sends m) = 0
act_reach (Takes m) = 0
act_reach (Does text) = (action_box text).reach

-- how far the box of an event reaches from the axis of instance i
abbrev pub spot_reach : ℕ → Spot → ℕ
spot_reach i spot = cond (nat_eq spot.instance i) (act_reach spot.act) 0

-- how far boxes reach from the axis of instance i
abbrev pub reach : Scene → ℕ → ℕ
reach s i = fold (λ most spot. max most (spot_reach i spot)) 0 s.spots

-- the room that a message to oneself takes right of instance i, by the depths of outputs
abbrev pub own_room : List ℕ → ℕ → Arrow → ℕ
own_room depths i a =
    cond (nat_eq a.from i && nat_eq a.to i) (8 * (length a.label + at depths a.output) + 56) 0

-- the room that messages to oneself take right of instance i
abbrev pub own_rooms : Scene → List ℕ → ℕ → ℕ
own_rooms s depths i = fold (λ most a. max most (own_room depths i a)) 0 s.arrows

-- the room left of instance i
abbrev pub left : Scene → ℕ → ℕ
left s i = max (max 40 (half s i + 8)) (reach s i + 16)

-- the room right of instance i
abbrev pub right : Scene → List ℕ → ℕ → ℕ
right s depths i =
    max (max (max 40 (half s i + 8)) (reach s i + 40)) (own_rooms s depths i)

-- a message goes over the gap behind instance i first: from i to a later instance, or from the next one
-- to an earlier one
abbrev pub begins_over : ℕ → Arrow → Bool
begins_over i a = (nat_eq a.from i && nat_lt i a.to) || (nat_eq a.from (i + 1) && nat_lt a.to (i + 1))

-- the room that the label of a message takes in the gap behind instance i
abbrev pub label_room : ℕ → Arrow → ℕ
label_room i a = cond (begins_over i a) (8 * length a.label + 64) 0

-- the room that labels take in the gap behind instance i
abbrev pub label_rooms : Scene → ℕ → ℕ
label_rooms s i = fold (λ most a. max most (label_room i a)) 0 s.arrows

-- what the heads and the sides of instance i and the next one ask of the gap between them
abbrev pub side_room : Scene → List ℕ → ℕ → ℕ
side_room s depths i =
    max (max (max 112 ((half s i + half s (i + 1)) + 16)) (right s depths i + 16))
    (left s (i + 1) + 16)

-- the gap behind instance i
abbrev pub gap : Scene → List ℕ → ℕ → ℕ
gap s depths i = max (side_room s depths i) (label_rooms s i)

-- the gaps between instances
abbrev pub gaps_of : Scene → List ℕ → List ℕ
gaps_of s depths = map (gap s depths) (range_with_len 0 (length s.heads - 1))

-- what numbers add up to, from a first one on
abbrev pub total : ℕ → List ℕ → ℕ
total start steps = fold (λ sum step. sum + step) start steps

-- a number, and what it comes to after each step
abbrev pub sums : ℕ → List ℕ → List ℕ
sums start [] = start ∷ []
sums start (step ∷ steps) = start ∷ sums (start + step) steps

-- the width that the instances need
abbrev pub need : Scene → List ℕ → List ℕ → ℕ
need s depths gaps =
    cond (nat_eq (length s.heads) 0) 16
    ((total (left s 0) gaps + right s depths (length s.heads - 1)) + 16)

-- the width that a heading needs
abbrev pub heading_width : List (List ℕ) → ℕ
heading_width heading = fold (λ most text. max most (8 * length text + 32)) 64 heading

-- the first axis of a picture so wide
abbrev pub first_axis : Scene → ℕ → ℕ → ℕ
first_axis s width needed = ((width - needed) / 2 + 8) + left s 0

-- how wide a picture is, and where its axes stand, with these gaps between instances
abbrev pub across_by : Scene → List (List ℕ) → List ℕ → List ℕ → ℕ × List ℕ
across_by s heading depths gaps =
    let needed = need s depths gaps in
    let width = max (heading_width heading) needed in
    (width, sums (first_axis s width needed) gaps)

-- how wide a picture is, and where its axes stand
abbrev pub across_of : Scene → List (List ℕ) → List ℕ → ℕ × List ℕ
across_of s heading depths = across_by s heading depths (gaps_of s depths)

-- an instance has a kind
abbrev pub has_kind : Head → Bool
has_kind h = nat_lt 0 (length h.kind)

-- the height of a head
abbrev pub head_room : Head → ℕ
head_room h = cond (has_kind h) 42 26

-- the height of the heads
abbrev pub head_height : List Head → ℕ
head_height heads = fold (λ most h. max most (head_room h)) 26 heads

-- the number of the row of an event, or how many rows there are
abbrev pub row_number : List Row → ℕ → ℕ
row_number [] e = 0
row_number (row ∷ rows) e = cond (row_passes (nat_eq e) row) 0 (row_number rows e + 1)

-- the numbers of the rows of the events
abbrev pub row_numbers : Scene → List ℕ
row_numbers s = map (row_number s.rows) (range_with_len 0 (length s.spots))

-- a message to oneself is short: both of its ends are in one row; by the rows of events
abbrev pub is_short_arrow : List ℕ → Arrow → Bool
is_short_arrow numbers a = nat_eq a.from a.to && nat_eq (at numbers a.output) (at numbers a.input)

-- the same of a message, if there is one
abbrev pub is_short : List ℕ → Option Arrow → Bool
is_short numbers None = false
is_short numbers (Some a) = is_short_arrow numbers a

-- the height of a row whose first event does this
abbrev pub act_height : Scene → List ℕ → Act → ℕ
act_height s numbers (Sends m) = cond (is_short numbers (slice_get s.arrows m)) 48 32
act_height s numbers (Takes m) = 32
act_height s numbers (Does text) = 16 * length (action_box text).lines + 32

-- the height of the row of an event, if there is one
abbrev pub spot_height : Scene → List ℕ → Option Spot → ℕ
spot_height s numbers None = 32
spot_height s numbers (Some spot) = act_height s numbers spot.act

-- the height of a row
abbrev pub row_height : Scene → List ℕ → Row → ℕ
row_height s numbers row = spot_height s numbers (slice_get s.spots row.first)

-- the heights of the rows
abbrev pub row_heights : Scene → List ℕ → List ℕ
row_heights s numbers = map (row_height s numbers) s.rows

-- where the axes end, and where rows so high begin and end, below heads that end here
abbrev pub down_by : List ℕ → ℕ → ℕ × List ℕ
down_by heights below = (total (below + 8) heights + 8, sums (below + 8) heights)

-- where the axes end, and where the rows begin and end, below heads that end here
abbrev pub down_of : Scene → List ℕ → ℕ → ℕ × List ℕ
down_of s numbers below = down_by (row_heights s numbers) below

-- where the heads begin, below a heading
abbrev pub top_of : List (List ℕ) → ℕ
top_of heading = 18 * length heading + 16

-- the height of a picture
abbrev pub height_of : Scene → ℕ → ℕ → ℕ
height_of s top foot = cond (nat_eq (length s.heads) 0) top (foot + 22)

-- where the heads end
abbrev pub below_of : Scene → List (List ℕ) → ℕ
below_of s heading = top_of heading + head_height s.heads

-- where everything stands, of this width and height
abbrev pub layout_by : Scene → List (List ℕ) → ℕ × List ℕ → ℕ × List ℕ → Layout
layout_by s heading across down = record {
  width = across.0;
  height = height_of s (top_of heading) down.0;
  top = top_of heading;
  below = below_of s heading;
  foot = down.0;
  axes = across.1;
  edges = down.1;
  rows = row_numbers s;
  depths = depths_of s;
}

-- where everything stands below a heading
abbrev pub layout_of : Scene → List (List ℕ) → Layout
layout_of s heading =
    layout_by s heading (across_of s heading (depths_of s))
    (down_of s (row_numbers s) (below_of s heading))
