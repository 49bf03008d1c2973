-- Where rows and events stand in a layout.
use Rattle.std.specs.Prelude.{ℕ, ◌+◌, ◌-◌, ◌/◌, cond, max, min, List, Option, None, Some, fold, slice_get}
use Rattle.msc_picture.specs.declared.scene.Act.{Act}
use Rattle.msc_picture.specs.declared.scene.Act.TheVariants.{Sends, Takes, Does}
use Rattle.msc_picture.specs.declared.scene.Scene.{Scene}
use Rattle.msc_picture.specs.declared.scene.Spot.{Spot}
use Rattle.msc_svg.specs.declared.layout.Layout.{Layout}
use Rattle.msc_svg.specs.Layouts.{at, is_short}

-- the axis of instance i
abbrev pub axis : Layout → ℕ → ℕ
axis l i = at l.axes i

-- where row r begins
abbrev pub edge : Layout → ℕ → ℕ
edge l r = at l.edges r

-- the middle of row r
abbrev pub middle : Layout → ℕ → ℕ
middle l r = edge l r + (edge l (r + 1) - edge l r) / 2

-- the middle of the row of event e
abbrev pub event_middle : Layout → ℕ → ℕ
event_middle l e = middle l (at l.rows e)

-- how far an end of a short message stands from the middle of its row
abbrev pub shift : Scene → Layout → ℕ → ℕ
shift s l m = cond (is_short l.rows (slice_get s.arrows m)) 7 0

-- where event e stands, which does this
abbrev pub act_place : Scene → Layout → ℕ → Act → ℕ
act_place s l e (Sends m) = event_middle l e - shift s l m
act_place s l e (Takes m) = event_middle l e + shift s l m
act_place s l e (Does text) = event_middle l e

-- the same of an event, if there is one
abbrev pub spot_place : Scene → Layout → ℕ → Option Spot → ℕ
spot_place s l e None = event_middle l e
spot_place s l e (Some spot) = act_place s l e spot.act

-- where event e stands: in the middle of its row, and an end of a short message above or below it
abbrev pub place : Scene → Layout → ℕ → ℕ
place s l e = spot_place s l e (slice_get s.spots e)

-- the least place of these events, or the foot of the axes
abbrev pub least_place : Scene → Layout → ℕ → List ℕ → ℕ
least_place s l start events = fold (λ least e. min least (place s l e)) start events

-- the greatest place of these events
abbrev pub greatest_place : Scene → Layout → ℕ → List ℕ → ℕ
greatest_place s l start events = fold (λ most e. max most (place s l e)) start events

-- where the first of the rows of these events begins
abbrev pub least_edge : Layout → List ℕ → ℕ
least_edge l events = fold (λ least e. min least (edge l (at l.rows e))) l.foot events
