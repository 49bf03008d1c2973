-- Where the columns of a picture in text stand (this project's own).
use Rattle.std.specs.Prelude.{ℕ, ◌+◌, ◌-◌, ◌/◌, ◌&&◌, cond, max, min, List, [], ◌++◌, codes, fold, get_or, length, map, nat_eq, nat_lt, slice_set, take}
use Rattle.std.specs.List.{range_with_len}
use Rattle.msc_picture.specs.declared.columns.Columns.{Columns}
use Rattle.msc_picture.specs.declared.scene.Act.{Act}
use Rattle.msc_picture.specs.declared.scene.Act.TheVariants.{Sends, Takes, Does}
use Rattle.msc_picture.specs.declared.scene.Arrow.{Arrow}
use Rattle.msc_picture.specs.declared.scene.Head.{Head}
use Rattle.msc_picture.specs.declared.scene.Scene.{Scene}
use Rattle.msc_picture.specs.declared.scene.Spot.{Spot}

-- what is shown of an action's text: its first 38 characters and `..` where it has more than 40
abbrev pub short_text : List ℕ → List ℕ
short_text text = cond (nat_lt 40 (length text)) (take 38 text ++ codes "..") text

-- the room that an arrow takes right of instance i: that of a message to oneself
abbrev pub arrow_room : ℕ → Arrow → ℕ
arrow_room i a = cond (nat_eq a.from i && nat_eq a.to i) (length a.label + 8) 0

-- the room that what an event does takes right of its instance: that of an action
abbrev pub act_room : Act → ℕ
act_room (Sends m) = 0
act_room (Takes m) = 0
act_room (Does text) = length (short_text text) + 3

-- the room that an event takes right of instance i
abbrev pub spot_room : ℕ → Spot → ℕ
spot_room i s = cond (nat_eq s.instance i) (act_room s.act) 0

-- the room right of instance i: the greatest that one of its arrows or events takes
abbrev pub room : Scene → ℕ → ℕ
room s i =
    fold (λ most x. max most (spot_room i x))
    (fold (λ most a. max most (arrow_room i a)) 0 s.arrows) s.spots

-- what stands at a number past the last instance; no rule speaks of it
abbrev pub no_head : Head
no_head = record { name = []; kind = [] }

-- the length of the name of instance i
abbrev pub name_length : Scene → ℕ → ℕ
name_length s i = length (get_or s.heads i no_head).name

-- the gap behind instance i, as far as names, actions and messages to oneself ask for it
abbrev pub first_gap : Scene → ℕ → ℕ
first_gap s i =
    max (max 14 ((name_length s i + name_length s (i + 1)) / 2 + 3)) (room s i + 1)

-- over how many gaps an arrow goes
abbrev pub span : Arrow → ℕ
span a = (a.from - a.to) + (a.to - a.from)

-- what gaps from this one on, so many, add up to
abbrev pub added_up : List ℕ → ℕ → ℕ → ℕ
added_up gaps start many = fold (λ total k. total + get_or gaps k 0) 0 (range_with_len start many)

-- the rightmost gap of an arrow grows by what its label lacks
abbrev pub widened : List ℕ → Arrow → ℕ → List ℕ
widened gaps a last =
    slice_set gaps last
    (get_or gaps last 0 + ((length a.label + 12) - added_up gaps (min a.from a.to) (span a)))

-- the gaps after all arrows over so many gaps, in their order
abbrev pub widened_by : List Arrow → List ℕ → ℕ → List ℕ
widened_by arrows gaps many =
    fold (λ g a. cond (nat_eq (span a) many) (widened g a (max a.from a.to - 1)) g) gaps arrows

-- the gaps after all arrows between two instances, those over fewer gaps first
abbrev pub gaps_of : Scene → List ℕ
gaps_of s =
    let many = length s.heads - 1 in
    fold (widened_by s.arrows) (map (first_gap s) (range_with_len 0 many)) (range_with_len 1 many)

-- the column of the first instance
abbrev pub first_column : Scene → ℕ
first_column s = max 4 (name_length s 0 / 2 + 2)

-- the column behind so many gaps
abbrev pub column_after : ℕ → List ℕ → ℕ → ℕ
column_after first gaps i = first + added_up gaps 0 i

-- the column of instance i
abbrev pub column : Columns → ℕ → ℕ
column c i = get_or c.columns i 0

-- what stands behind the last column
abbrev pub end_room : Scene → ℕ → ℕ
end_room s last = max (max 2 (name_length s last / 2 + 2)) (room s last)

-- the columns of a picture
abbrev pub columns_of : Scene → Columns
columns_of s =
    let gaps = gaps_of s in
    let last = length s.heads - 1 in
    record {
      columns = map (column_after (first_column s) gaps) (range_with_len 0 (length s.heads));
      width = column_after (first_column s) gaps last + end_room s last;
    }
