-- The elements of a picture, in their order.
use Rattle.std.specs.Prelude.{ℕ, ◌+◌, ◌-◌, ◌*◌, ◌/◌, Bool, cond, List, [], ◌∷◌, ◌++◌, Option, None, Some, codes, get_or, length, map, nat_eq, slice_get}
use Rattle.std.specs.Fmt.{decimal}
use Rattle.std.specs.List.{flat_map, list_any, range_with_len}
use Rattle.msc_picture.specs.declared.scene.Act.{Act}
use Rattle.msc_picture.specs.declared.scene.Act.TheVariants.{Sends, Takes, Does}
use Rattle.msc_picture.specs.declared.scene.Arrow.{Arrow}
use Rattle.msc_picture.specs.declared.scene.Band.{Band}
use Rattle.msc_picture.specs.declared.scene.Head.{Head}
use Rattle.msc_picture.specs.declared.scene.RaceBar.{RaceBar}
use Rattle.msc_picture.specs.declared.scene.Scene.{Scene}
use Rattle.msc_picture.specs.declared.scene.Spot.{Spot}
use Rattle.msc_picture.specs.Columns.{no_head}
use Rattle.msc_picture.specs.Laws.{events_of_rows}
use Rattle.msc_picture.specs.Texts.{is_marked}
use Rattle.msc_svg.specs.declared.action.ActionBox.{ActionBox}
use Rattle.msc_svg.specs.declared.caption.Caption.{Caption}
use Rattle.msc_svg.specs.declared.layout.Layout.{Layout}
use Rattle.msc_tree.specs.declared.shape.Area.{Area}
use Rattle.msc_svg.specs.Actions.{action_box}
use Rattle.msc_svg.specs.Captions.{caption_node, captions_of, plates}
use Rattle.msc_svg.specs.Layouts.{at, half, has_kind}
use Rattle.msc_svg.specs.Places.{axis, edge, event_middle, greatest_place, least_edge, least_place, place}
use Rattle.msc_tree.specs.Shapes.{end_circle, path, point, rect, step, text_at}
use Rattle.msc_tree.specs.Trees.{Node}

-- where a rectangle lies
abbrev pub area : ℕ → ℕ → ℕ → ℕ → Area
area x y w h = record { x = x; y = y; width = w; height = h }

-- the class of text k of a heading
abbrev pub heading_class : ℕ → List ℕ
heading_class k = cond (nat_eq k 0) (codes "title") (codes "verdict")

-- text k of a heading
abbrev pub heading_node : List (List ℕ) → ℕ → Node
heading_node heading k = text_at (heading_class k) 16 (18 * k + 24) (get_or heading k [])

-- the texts of a heading
abbrev pub heading_nodes : List (List ℕ) → List Node
heading_nodes heading = map (heading_node heading) (range_with_len 0 (length heading))

-- from where to where a band of instance i goes
abbrev pub stretch_at : Layout → ℕ → Band → List (ℕ × ℕ)
stretch_at l i band =
    cond (nat_eq band.instance i) ((edge l band.first + 7, edge l (band.last + 1) - 7) ∷ []) []

-- from where to where the bands of instance i go
abbrev pub stretches : Scene → Layout → ℕ → List (ℕ × ℕ)
stretches s l i = flat_map (stretch_at l i) s.bands

-- an axis at x from there on, up to these stretches
abbrev pub axis_from : ℕ → ℕ → List (ℕ × ℕ) → ℕ → List ℕ
axis_from x s [] foot = point (codes "M") x s ++ step (codes "V") foot
axis_from x s (band ∷ bands) foot =
    (point (codes "M") x s ++ step (codes "V") band.0) ++ axis_from x band.1 bands foot

-- the path of a stretch
abbrev pub open_path : ℕ → ℕ × ℕ → List ℕ
open_path x band = point (codes "M") x band.0 ++ step (codes "V") band.1

-- the ends of a stretch
abbrev pub tick_path : ℕ → ℕ × ℕ → List ℕ
tick_path x band =
    ((point (codes "M") (x - 18) band.0 ++ codes "h36") ++ point (codes "M") (x - 18) band.1)
    ++ codes "h36"

-- the stretches of an axis, and their ends
abbrev pub stretch_nodes : ℕ → List (ℕ × ℕ) → List Node
stretch_nodes x bands =
    path (codes "open") (flat_map (open_path x) bands)
    ∷ path (codes "tick") (flat_map (tick_path x) bands) ∷ []

-- the same, where there are any
abbrev pub open_nodes : ℕ → List (ℕ × ℕ) → List Node
open_nodes x bands = cond (nat_eq (length bands) 0) [] (stretch_nodes x bands)

-- how far below the top of a head its name stands
abbrev pub name_drop : Layout → Head → ℕ
name_drop l h = cond (has_kind h) 17 ((l.below - l.top) / 2 + 4)

-- the kind of an instance, where it has one
abbrev pub kind_nodes : Layout → ℕ → Head → List Node
kind_nodes l x h = cond (has_kind h) (text_at (codes "kind") x (l.top + 33) h.kind ∷ []) []

-- the box of a head so wide to both sides of its axis
abbrev pub head_rect : Layout → ℕ → ℕ → Node
head_rect l x w = rect (codes "head") (area (x - w) l.top (2 * w) (l.below - l.top)) 0

-- the name of an instance
abbrev pub name_node : Layout → ℕ → Head → Node
name_node l x h = text_at (codes "name") x (l.top + name_drop l h) h.name

-- a head so wide to both sides of its axis
abbrev pub head_nodes : Layout → ℕ → ℕ → Head → List Node
head_nodes l x w h = head_rect l x w ∷ name_node l x h ∷ kind_nodes l x h

-- an axis without its stretches
abbrev pub axis_node : Layout → ℕ → List (ℕ × ℕ) → Node
axis_node l x bands = path (codes "axis") (axis_from x l.below bands l.foot)

-- the foot of an axis
abbrev pub foot_node : Layout → ℕ → Node
foot_node l x = rect (codes "foot") (area (x - 12) l.foot 24 6) 0

-- an axis with its stretches, and its foot
abbrev pub axis_nodes : Layout → ℕ → List (ℕ × ℕ) → List Node
axis_nodes l x bands = (axis_node l x bands ∷ open_nodes x bands) ++ foot_node l x ∷ []

-- instance i
abbrev pub instance_nodes : Scene → Layout → ℕ → List Node
instance_nodes s l i =
    head_nodes l (axis l i) (half s i) (get_or s.heads i no_head)
    ++ axis_nodes l (axis l i) (stretches s l i)

-- an end of a race that does this, where it is no action
abbrev pub end_by : Scene → Layout → ℕ → ℕ → Act → List Node
end_by s l x e (Sends m) = end_circle x (place s l e) ∷ []
end_by s l x e (Takes m) = end_circle x (place s l e) ∷ []
end_by s l x e (Does text) = []

-- an end of a race, where it is no action
abbrev pub end_at : Scene → Layout → ℕ → ℕ → Option Spot → List Node
end_at s l x e None = []
end_at s l x e (Some spot) = end_by s l x e spot.act

-- ends of races that are no actions
abbrev pub ends_at : Scene → Layout → ℕ → List ℕ → List Node
ends_at s l x events = flat_map (λ e. end_at s l x e (slice_get s.spots e)) events

-- a capsule around an axis, from the least to the greatest of these places
abbrev pub capsule : ℕ → ℕ → ℕ → Node
capsule x least most =
    rect (codes "race") (area (x - 9) (least - 9) 18 ((most - least) + 18)) 9

-- the least place of the events of a bar
abbrev pub bar_top : Scene → Layout → RaceBar → ℕ
bar_top s l bar = least_place s l (least_place s l l.foot bar.upper) bar.lower

-- the greatest place of the events of a bar
abbrev pub bar_end : Scene → Layout → RaceBar → ℕ
bar_end s l bar = greatest_place s l (greatest_place s l 0 bar.upper) bar.lower

-- the capsule of a bar
abbrev pub capsule_of : Scene → Layout → RaceBar → Node
capsule_of s l bar = capsule (axis l bar.instance) (bar_top s l bar) (bar_end s l bar)

-- a bar
abbrev pub bar_nodes : Scene → Layout → RaceBar → List Node
bar_nodes s l bar =
    let x = axis l bar.instance in
    capsule_of s l bar ∷ (ends_at s l x bar.upper ++ ends_at s l x bar.lower)

-- the arrow of a message to oneself
abbrev pub own_path : Scene → Layout → Arrow → List ℕ
own_path s l a =
    ((point (codes "M") (axis l a.from) (place s l a.output)
    ++ step (codes "h") (8 * at l.depths a.output + 40)) ++ step (codes "V") (place s l a.input))
    ++ step (codes "H") (axis l a.from)

-- the arrow of a message to another instance
abbrev pub other_path : Scene → Layout → Arrow → List ℕ
other_path s l a =
    point (codes "M") (axis l a.from) (place s l a.output)
    ++ point (codes "L") (axis l a.to) (place s l a.input)

-- the arrow of a message
abbrev pub arrow_node : Scene → Layout → Arrow → Node
arrow_node s l a = path (codes "arrow") (cond (nat_eq a.from a.to) (own_path s l a) (other_path s l a))

-- the plates, where there are events
abbrev pub plate_nodes : List Caption → List Node
plate_nodes captions = cond (nat_eq (length captions) 0) [] (path (codes "plate") (plates captions) ∷ [])

-- line k of a box, where it is not empty
abbrev pub words_at : ℕ → ℕ → ActionBox → ℕ → List Node
words_at x y box k =
    cond (nat_eq (length (get_or box.lines k [])) 0) []
    (text_at (codes "words") x ((y - box.up) + (16 * k + 16)) (get_or box.lines k []) ∷ [])

-- the lines of a box
abbrev pub words_nodes : ℕ → ℕ → ActionBox → List Node
words_nodes x y box = flat_map (words_at x y box) (range_with_len 0 (length box.lines))

-- e is an event of a bar
abbrev pub is_hit : Scene → ℕ → Bool
is_hit s e = list_any (λ bar. is_marked bar e) s.bars

-- the class of the box of event e
abbrev pub box_class : Scene → ℕ → List ℕ
box_class s e = cond (is_hit s e) (codes "action hit") (codes "action")

-- the box of an action
abbrev pub box_nodes : List ℕ → ℕ → ℕ → ActionBox → List Node
box_nodes c x y box =
    rect c (area (x - box.reach) (y - box.up) (2 * box.reach) (2 * box.up)) 0
    ∷ words_nodes x y box

-- what is drawn of event e of instance i, which does this, beside its arrow: the box of an action
abbrev pub act_nodes : Scene → Layout → ℕ → ℕ → Act → List Node
act_nodes s l e i (Sends m) = []
act_nodes s l e i (Takes m) = []
act_nodes s l e i (Does text) =
    box_nodes (box_class s e) (axis l i) (event_middle l e) (action_box text)

-- the same of an event, if there is one
abbrev pub spot_nodes : Scene → Layout → ℕ → Option Spot → List Node
spot_nodes s l e None = []
spot_nodes s l e (Some spot) = act_nodes s l e spot.instance spot.act

-- the boxes of actions, in the order of the events
abbrev pub boxes : Scene → Layout → List Node
boxes s l = flat_map (λ e. spot_nodes s l e (slice_get s.spots e)) (events_of_rows s.rows)

-- the numbers of a bar's races
abbrev pub count_text : RaceBar → List ℕ
count_text bar =
    cond (nat_eq bar.first bar.last) (decimal bar.first)
    ((decimal bar.first ++ codes "-") ++ decimal bar.last)

-- the plate of a badge with a text so long, where lower events begin
abbrev pub count_rect : ℕ → ℕ → ℕ → Node
count_rect x z long =
    let v = 3 * long + 5 in rect (codes "count") (area (x - v) (z - 10) (2 * v) 15) 7

-- the badge of a text on an axis, where lower events begin
abbrev pub badge_nodes : ℕ → ℕ → List ℕ → List Node
badge_nodes x z t =
    count_rect x z (length t) ∷ text_at (codes "badge") x (z + 1) t ∷ []

-- the badge of a bar with a number
abbrev pub badge_of : Layout → RaceBar → List Node
badge_of l bar =
    cond (nat_eq bar.first 0) []
    (badge_nodes (axis l bar.instance) (least_edge l bar.lower) (count_text bar))

-- what lies below the labels and numbers: the heading, the instances, the bars and the arrows
abbrev pub ground_nodes : Scene → Layout → List (List ℕ) → List Node
ground_nodes s l heading =
    ((heading_nodes heading
    ++ flat_map (instance_nodes s l) (range_with_len 0 (length s.heads)))
    ++ flat_map (bar_nodes s l) s.bars) ++ map (arrow_node s l) s.arrows

-- the labels and numbers on their plates, the boxes of actions, and the badges
abbrev pub upper_nodes : Scene → Layout → List Node
upper_nodes s l =
    ((plate_nodes (captions_of s l) ++ boxes s l) ++ map caption_node (captions_of s l))
    ++ flat_map (badge_of l) s.bars

-- the elements of a picture
abbrev pub picture_nodes : Scene → Layout → List (List ℕ) → List Node
picture_nodes s l heading = ground_nodes s l heading ++ upper_nodes s l
