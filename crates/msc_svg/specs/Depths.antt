-- How deep messages to oneself reach from their axes, so that their arrows do not meet.
use Rattle.std.specs.Prelude.{ℕ, ◌+◌, Bool, not, cond, max, List, [], ◌∷◌, ◌++◌, Option, None, Some, filter, fold, length, nat_eq, replicate, slice_get, slice_set}
use Rattle.msc_picture.specs.declared.scene.Act.{Act}
use Rattle.msc_picture.specs.declared.scene.Act.TheVariants.{Sends, Takes, Does}
use Rattle.msc_picture.specs.declared.scene.Arrow.{Arrow}
use Rattle.msc_picture.specs.declared.scene.Scene.{Scene}
use Rattle.msc_picture.specs.declared.scene.Spot.{Spot}
use Rattle.msc_picture.specs.Laws.{events_of_rows}
use Rattle.msc_svg.specs.declared.depth.Underway.{Underway}

-- one more than the depth of a message to oneself that is under way on an axis
abbrev pub past_depth : ℕ → Underway → ℕ
past_depth i u = cond (nat_eq u.instance i) (u.depth + 1) 0

-- the depth of a message to oneself of instance i that begins while these are under way: 0 where none of
-- them is of i, else one more than the greatest depth of those
abbrev pub next_depth : List Underway → ℕ → ℕ
next_depth under i = fold (λ most u. max most (past_depth i u)) 0 under

-- it is the way of another message
abbrev pub is_other : ℕ → Underway → Bool
is_other m u = not (nat_eq u.message m)

-- depths by output, and the messages to oneself that are under way, after the output e of message m of
-- instance i to itself
abbrev pub begun : ℕ → ℕ → ℕ → List ℕ × List Underway → List ℕ × List Underway
begun e m i s =
    let depth = next_depth s.1 i in
    (slice_set s.0 e depth, s.1 ++ record { message = m; instance = i; depth = depth } ∷ [])

-- the same after the output e of message m
abbrev pub sent : ℕ → ℕ → List ℕ × List Underway → Option Arrow → List ℕ × List Underway
sent e m s None = s
sent e m s (Some a) = cond (nat_eq a.from a.to) (begun e m a.from s) s

-- the same after event e, which does this
abbrev pub done : Scene → ℕ → List ℕ × List Underway → Act → List ℕ × List Underway
done scene e s (Sends m) = sent e m s (slice_get scene.arrows m)
done scene e s (Takes m) = (s.0, filter (is_other m) s.1)
done scene e s (Does text) = s

-- the same after event e, if there is one
abbrev pub spotted : Scene → ℕ → List ℕ × List Underway → Option Spot → List ℕ × List Underway
spotted scene e s None = s
spotted scene e s (Some spot) = done scene e s spot.act

-- the same after event e
abbrev pub walked : Scene → List ℕ × List Underway → ℕ → List ℕ × List Underway
walked scene s e = spotted scene e s (slice_get scene.spots e)

-- the depths of messages to oneself, by their outputs, after a walk through the order
abbrev pub depths_of : Scene → List ℕ
depths_of scene =
    (fold (walked scene) (replicate (length scene.spots) 0, []) (events_of_rows scene.rows)).0
