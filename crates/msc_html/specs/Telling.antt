-- What is told of a race, in the names and labels of a picture.
use Rattle.std.specs.Prelude.{ℕ, Bool, cond, List, [], ◌∷◌, ◌++◌, Option, None, Some, codes, get_or, slice_get}
use Rattle.std.specs.Fmt.{decimal}
use Rattle.msc_reason.specs.declared.cause.Cause.{Cause}
use Rattle.msc_reason.specs.declared.cause.RaceKind.{RaceKind}
use Rattle.msc_reason.specs.declared.cause.RaceKind.TheVariants.{Early, Queues, Unordered, Overtaken}
use Rattle.msc_reason.specs.Causes.{kind_word}
use Rattle.msc_picture.specs.declared.scene.Act.{Act}
use Rattle.msc_picture.specs.declared.scene.Act.TheVariants.{Sends, Takes, Does}
use Rattle.msc_picture.specs.declared.scene.Arrow.{Arrow}
use Rattle.msc_picture.specs.declared.scene.Scene.{Scene}
use Rattle.msc_picture.specs.declared.scene.Spot.{Spot}
use Rattle.msc_picture.specs.Columns.{no_head, short_text}
use Rattle.msc_html.specs.declared.part.Part.{Part}
use Rattle.msc_html.specs.declared.part.Tag.TheVariants.{Number}
use Rattle.msc_html.specs.Parts.{code, part_of, words}

-- the name of instance i
abbrev pub name_at : Scene → ℕ → List ℕ
name_at s i = (get_or s.heads i no_head).name

-- the label of a message, if there is one
abbrev pub label_of : Option Arrow → List ℕ
label_of None = []
label_of (Some a) = a.label

-- the name of the instance that takes it
abbrev pub taker_of : Scene → Option Arrow → List ℕ
taker_of s None = []
taker_of s (Some a) = name_at s a.to

-- the name of the instance that sends it
abbrev pub sender_of : Scene → Option Arrow → List ℕ
sender_of s None = []
sender_of s (Some a) = name_at s a.from

-- the label of message m, and the names of the instances that take and send it
abbrev pub label_at : Scene → ℕ → List ℕ
label_at s m = label_of (slice_get s.arrows m)

abbrev pub taker_at : Scene → ℕ → List ℕ
taker_at s m = taker_of s (slice_get s.arrows m)

abbrev pub sender_at : Scene → ℕ → List ℕ
sender_at s m = sender_of s (slice_get s.arrows m)

-- an action with this text
abbrev pub action_text : List ℕ → List ℕ
action_text text = (codes "action '" ++ short_text text) ++ codes "'"

-- an event that does this
abbrev pub act_text : Scene → Act → List ℕ
act_text s (Sends m) = ((codes "out " ++ label_at s m) ++ codes " to ") ++ taker_at s m
act_text s (Takes m) = ((codes "in " ++ label_at s m) ++ codes " from ") ++ sender_at s m
act_text s (Does text) = action_text text

-- the message of an event that does this
abbrev pub act_label : Scene → Act → List ℕ
act_label s (Sends m) = label_at s m
act_label s (Takes m) = label_at s m
act_label s (Does text) = []

-- the name at the other end of it
abbrev pub act_other : Scene → Act → List ℕ
act_other s (Sends m) = taker_at s m
act_other s (Takes m) = sender_at s m
act_other s (Does text) = []

-- that the instance of this name has done this
abbrev pub act_done : Scene → List ℕ → Act → List Part
act_done s home (Sends m) =
    code home ∷ words (codes " has sent ") ∷ code (label_at s m) ∷ words (codes " to ")
    ∷ code (taker_at s m) ∷ []
act_done s home (Takes m) =
    code home ∷ words (codes " has taken ") ∷ code (label_at s m) ∷ words (codes " from ")
    ∷ code (sender_at s m) ∷ []
act_done s home (Does text) =
    code home ∷ words (codes " has done ") ∷ code (action_text text) ∷ []

-- the same of an event, if there is one
abbrev pub spot_text : Scene → Option Spot → List ℕ
spot_text s None = []
spot_text s (Some spot) = act_text s spot.act

abbrev pub spot_label : Scene → Option Spot → List ℕ
spot_label s None = []
spot_label s (Some spot) = act_label s spot.act

abbrev pub spot_other : Scene → Option Spot → List ℕ
spot_other s None = []
spot_other s (Some spot) = act_other s spot.act

abbrev pub spot_home : Scene → Option Spot → List ℕ
spot_home s None = []
spot_home s (Some spot) = name_at s spot.instance

abbrev pub spot_done : Scene → Option Spot → List Part
spot_done s None = []
spot_done s (Some spot) = act_done s (name_at s spot.instance) spot.act

-- event e; the label of its message; the name at the other end of that; the name of its instance;
-- that it has occurred
abbrev pub event_text : Scene → ℕ → List ℕ
event_text s e = spot_text s (slice_get s.spots e)

abbrev pub label : Scene → ℕ → List ℕ
label s e = spot_label s (slice_get s.spots e)

abbrev pub other : Scene → ℕ → List ℕ
other s e = spot_other s (slice_get s.spots e)

abbrev pub home : Scene → ℕ → List ℕ
home s e = spot_home s (slice_get s.spots e)

abbrev pub done : Scene → ℕ → List Part
done s e = spot_done s (slice_get s.spots e)

-- a race's kind, and whether it is always reversed
abbrev pub kind_text : Cause → List ℕ
kind_text cause =
    ((codes " (" ++ kind_word cause.kind) ++ cond cause.always (codes ", always") []) ++ codes ")"

-- what stands above what is told of race k from event e
abbrev pub title_parts : Scene → ℕ → ℕ → Cause → List Part
title_parts s k e cause =
    words (codes "Race ") ∷ part_of Number (decimal k) ∷ words (codes " on ") ∷ code (home s e)
    ∷ words (kind_text cause) ∷ []

-- the number of an event behind it
abbrev pub number_words : ℕ → List ℕ → List ℕ
number_words e rest = (codes " (event " ++ decimal e) ++ rest

-- which events of the race are drawn before one another
abbrev pub drawn_parts : Scene → ℕ → ℕ → List Part
drawn_parts s e f =
    code (event_text s e) ∷ words (number_words e (codes ") is drawn before "))
    ∷ code (event_text s f) ∷ words (number_words f (codes ").")) ∷ []

-- that two inputs come to an instance, in this way
abbrev pub two_parts : Scene → ℕ → ℕ → List ℕ → List Part
two_parts s e f way =
    code (label s e) ∷ words (codes " from ") ∷ code (other s e) ∷ words (codes " and ")
    ∷ code (label s f) ∷ words (codes " from ") ∷ code (other s f) ∷ words (codes " come to ")
    ∷ code (home s e) ∷ words way ∷ []

-- that an input can come before what is drawn above it
abbrev pub early_parts : Scene → ℕ → ℕ → List Part
early_parts s e f =
    (code (label s f) ∷ words (codes " from ") ∷ code (other s f) ∷ words (codes " can come before ") ∷ [])
    ++ done s e

-- how two inputs come to their instance
abbrev pub way_text : RaceKind → List ℕ
way_text Early = []
way_text Queues = codes " through two queues, and nothing makes the first one come first"
way_text Unordered = codes " through one queue, and nothing makes the first one be sent first"
way_text Overtaken =
    codes " through one queue, and the second one is sent first: the first one cannot overtake it"

-- why the second event can come first
abbrev pub can_parts : Scene → ℕ → ℕ → RaceKind → List Part
can_parts s e f Early = early_parts s e f
can_parts s e f Queues = two_parts s e f (way_text Queues)
can_parts s e f Unordered = two_parts s e f (way_text Unordered)
can_parts s e f Overtaken = two_parts s e f (way_text Overtaken)

-- how often it does
abbrev pub often_text : Bool → List ℕ
often_text always =
    cond always (codes ". Every run reverses the drawn order.")
    (codes ". Some runs keep the drawn order, others reverse it.")

-- why it can, and how often it does
abbrev pub reason_parts : Scene → ℕ → ℕ → Cause → List Part
reason_parts s e f cause = can_parts s e f cause.kind ++ words (often_text cause.always) ∷ []

-- the numbers of two events in this order
abbrev pub order_text : ℕ → ℕ → List ℕ → List ℕ
order_text x y rest = (((codes " (event " ++ decimal x) ++ codes " before event ") ++ decimal y) ++ rest

-- that no further order can help
abbrev pub hopeless_parts : Scene → ℕ → ℕ → List Part
hopeless_parts s p o =
    ((words (codes "In every run ") ∷ code (home s o) ∷ words (codes " sends ") ∷ code (label s o)
    ∷ words (codes " to ") ∷ code (other s o) ∷ words (codes " before ") ∷ [])
    ++ done s p)
    ++ words (order_text o p (codes "), so no further order can help: the drawing itself has to change."))
    ∷ []

-- which order would help
abbrev pub helping_parts : Scene → ℕ → ℕ → List Part
helping_parts s p o =
    ((words (codes "The drawn order would hold if ") ∷ code (home s o) ∷ words (codes " sent ")
    ∷ code (label s o) ∷ words (codes " to ") ∷ code (other s o) ∷ words (codes " only after ") ∷ [])
    ++ done s p)
    ++ words (order_text p o (codes ").")) ∷ []

-- what the race lacks
abbrev pub causes_parts : Scene → Cause → List Part
causes_parts s cause =
    cond cause.always (hopeless_parts s cause.needed cause.output)
    (helping_parts s cause.needed cause.output)
