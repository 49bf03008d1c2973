-- The labels of messages and the numbers of events: what stands where, and on which pale plate.
use Rattle.std.specs.Prelude.{ℕ, ◌+◌, ◌-◌, ◌*◌, ◌/◌, Bool, true, false, not, cond, List, [], ◌∷◌, ◌++◌, Option, None, Some, codes, length, nat_eq, nat_lt, slice_get}
use Rattle.std.specs.Fmt.{decimal}
use Rattle.std.specs.List.{flat_map}
use Rattle.msc_picture.specs.declared.scene.Act.{Act}
use Rattle.msc_picture.specs.declared.scene.Act.TheVariants.{Sends, Takes, Does}
use Rattle.msc_picture.specs.declared.scene.Arrow.{Arrow}
use Rattle.msc_picture.specs.declared.scene.Scene.{Scene}
use Rattle.msc_picture.specs.declared.scene.Spot.{Spot}
use Rattle.msc_picture.specs.Laws.{events_of_rows}
use Rattle.msc_svg.specs.declared.caption.Caption.{Caption}
use Rattle.msc_svg.specs.declared.caption.Side.{Side}
use Rattle.msc_svg.specs.declared.caption.Side.TheVariants.{Middle, Right, Left}
use Rattle.msc_svg.specs.declared.layout.Layout.{Layout}
use Rattle.msc_svg.specs.Actions.{action_box}
use Rattle.msc_svg.specs.Layouts.{at}
use Rattle.msc_svg.specs.Places.{axis, event_middle, place}
use Rattle.msc_tree.specs.Shapes.{point, step, text_at}
use Rattle.msc_tree.specs.Trees.{Node}

-- a label
abbrev pub label : Side → ℕ → ℕ → List ℕ → Caption
label side x y text = record { number = false; side = side; x = x; y = y; text = text }

-- the number of event e
abbrev pub number : Side → ℕ → ℕ → ℕ → Caption
number side x y e = record { number = true; side = side; x = x; y = y; text = decimal e }

-- the middle of the gap beside instance i towards instance j
abbrev pub gap_middle : Layout → ℕ → ℕ → ℕ
gap_middle l i j =
    cond (nat_lt i j) ((axis l i + axis l (i + 1)) / 2) ((axis l (i - 1) + axis l i) / 2)

-- where the label of a message to another instance stands: in the gap beside its sender
abbrev pub other_label : Layout → Arrow → Caption
other_label l a =
    let y = event_middle l a.output - 6 in
    cond (nat_eq (at l.rows a.output) (at l.rows a.input))
    (label Middle (gap_middle l a.from a.to) y a.label)
    (cond (nat_lt a.from a.to) (label Right (axis l a.from + 32) y a.label)
    (label Left (axis l a.from - 32) y a.label))

-- where the label of a message stands; of one to oneself right of its arrow
abbrev pub arrow_label : Layout → Arrow → Caption
arrow_label l a =
    cond (nat_eq a.from a.to)
    (label Right (axis l a.from + (8 * at l.depths a.output + 48)) (event_middle l a.output + 4) a.label)
    (other_label l a)

-- the label of a message, if there is one
abbrev pub label_of : Layout → Option Arrow → List Caption
label_of l None = []
label_of l (Some a) = arrow_label l a ∷ []

-- the number of an end stands left of its axis, where its arrow is not
abbrev pub end_number : Scene → Layout → ℕ → ℕ → Bool → Caption
end_number s l e i is_left =
    cond is_left (number Left (axis l i - 12) (place s l e + 3) e)
    (number Right (axis l i + 12) (place s l e + 3) e)

-- the output of a message goes to its own instance or to a later one
abbrev pub goes_right : Option Arrow → Bool
goes_right None = false
goes_right (Some a) = not (nat_lt a.to a.from)

-- the input of a message comes from its own instance or from a later one
abbrev pub comes_from_right : Option Arrow → Bool
comes_from_right None = false
comes_from_right (Some a) = not (nat_lt a.from a.to)

-- the number of the input e of message m, on instance i
abbrev pub taken_number : Scene → Layout → ℕ → ℕ → ℕ → Caption
taken_number s l e i m = end_number s l e i (comes_from_right (slice_get s.arrows m))

-- the number of the action e of instance i, which has this text
abbrev pub action_number : Layout → ℕ → ℕ → List ℕ → Caption
action_number l e i text =
    number Right (axis l i + ((action_box text).reach + 6)) (event_middle l e + 3) e

-- the label of an output, and the number of event e, which does this on instance i
abbrev pub act_captions : Scene → Layout → ℕ → ℕ → Act → List Caption
act_captions s l e i (Sends m) =
    label_of l (slice_get s.arrows m)
    ++ end_number s l e i (goes_right (slice_get s.arrows m)) ∷ []
act_captions s l e i (Takes m) =
    taken_number s l e i m ∷ []
act_captions s l e i (Does text) = action_number l e i text ∷ []

-- the same of an event, if there is one
abbrev pub spot_captions : Scene → Layout → ℕ → Option Spot → List Caption
spot_captions s l e None = []
spot_captions s l e (Some spot) = act_captions s l e spot.instance spot.act

-- the labels and numbers of a picture, in the order of its events
abbrev pub captions_of : Scene → Layout → List Caption
captions_of s l =
    flat_map (λ e. spot_captions s l e (slice_get s.spots e)) (events_of_rows s.rows)

-- the class of a label
abbrev pub label_class : Side → List ℕ
label_class Middle = codes "label"
label_class Right = codes "right"
label_class Left = codes "left"

-- the class of a label or a number
abbrev pub caption_class : Caption → List ℕ
caption_class c = cond c.number (codes "number " ++ label_class c.side) (label_class c.side)

-- the element of a label or a number
abbrev pub caption_node : Caption → Node
caption_node c = text_at (caption_class c) c.x c.y c.text

-- how wide a label or a number is
abbrev pub caption_width : Caption → ℕ
caption_width c = cond c.number 6 8 * length c.text

-- where a text that is so wide begins
abbrev pub begin_at : Side → ℕ → ℕ → ℕ
begin_at Middle x w = x - w / 2
begin_at Right x w = x
begin_at Left x w = x - w

-- a plate so wide and high
abbrev pub plate : ℕ → ℕ → ℕ → ℕ → List ℕ
plate u v w h =
    (((point (codes "M") u v ++ step (codes "h") w) ++ step (codes "v") h) ++ step (codes "h-") w)
    ++ codes "z"

-- the plate of a label or a number
abbrev pub caption_plate : Caption → List ℕ
caption_plate c =
    let w = caption_width c in
    let u = begin_at c.side c.x w in
    cond c.number (plate u (c.y - 8) w 9) (plate (u - 2) (c.y - 11) (w + 4) 13)

-- all plates
abbrev pub plates : List Caption → List ℕ
plates captions = flat_map caption_plate captions
