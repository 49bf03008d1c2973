-- Which events the code looks at as the next one: those that may follow, as far as lines tell.
use Rattle.std.specs.Prelude.{◌≡◌, ℕ, ◌*◌, ◌<◌, ◌≤◌, false, List, [], ◌∷◌, ◌++◌, length, IsTrue, Option, None, Some}
use Rattle.bit_rows.specs.Rows.{has, word_count}
use Rattle.msc_chart.specs.Charts.{partner, is_output}
use Rattle.msc_chart.specs.Lists.{occurs, Steps}
use Rattle.msc_picture.specs.declared.frame.Framed.{Framed}
use Rattle.msc_picture.specs.declared.ordering.Drawing.{Drawing}
use Rattle.msc_picture.specs.declared.ready.Ready.{Ready}
use Rattle.msc_picture.specs.declared.rule.Rule.{Rule}
use Rattle.msc_picture.specs.Courses.{IsOpen, ShareLevel, event_at, frame_of}
use Rattle.msc_picture.specs.Drawn.{Holds, lacks_output}
use Rattle.msc_picture.specs.Frames.{Frame, Fits, IsDrawnNext, IsEarliest, is_above}

-- e is left, and all events over it are drawn
pub record IsFree (f : Frame) (past : List ℕ) (e : ℕ) : Type 0 where
  pub left : occurs past e ≡ false
  pub over : IsOpen f past e

-- an input or an action that is left, with all events over it and its output drawn
pub record MayRest (f : Frame) (past : List ℕ) (e : ℕ) : Type 0 where
  pub free : IsFree f past e
  pub kind : is_output f.events e ≡ false
  pub sent : lacks_output f past e ≡ false

-- an output that is left, with all events over it drawn
pub record MaySend (f : Frame) (past : List ℕ) (e : ℕ) : Type 0 where
  pub free : IsFree f past e
  pub kind : IsTrue (is_output f.events e)

-- and all over its input too
pub record MayLevel (f : Frame) (past : List ℕ) (e : ℕ) : Type 0 where
  pub send : MaySend f past e
  pub taken : IsOpen f past (partner f.events e)

-- e is listed wherever it may come next. What else is listed is looked at in vain.
pub record IsListed (f : Frame) (past : List ℕ) (r : Ready) (e : ℕ) : Type 0 where
  pub rest : MayRest f past e → IsTrue (has r.rests.items e)
  pub send : MaySend f past e → IsTrue (has r.sends.items e)
  pub level : MayLevel f past e → IsTrue (has r.levels.items e)

-- so is each event
abbrev pub AreListed : Frame → List ℕ → Ready → Type 0
AreListed f past r = (e : ℕ) → e < length f.events → IsListed f past r e

-- and so are the events of the level at place p of the course, and the other ends of their messages
abbrev pub IsLevelListed : Frame → List ℕ → List ℕ → Ready → ℕ → ℕ → Type 0
IsLevelListed f course past r p end =
    (q : ℕ) → p ≤ q → q < end → ShareLevel f (event_at course p) (event_at course q)
    → IsListed f past r (event_at course q)
    × IsListed f past r (partner f.events (event_at course q))

-- a row of bits has a bit for each event below n
pub record HasBits (n : ℕ) (row : List ℕ) : Type 0 where
  pub words : length row ≡ word_count n
  pub room : n ≤ 64 * length row

-- there is room for the events below n
pub record HasRoom (n : ℕ) (r : Ready) : Type 0 where
  pub rests : HasBits n r.rests.items
  pub sends : HasBits n r.sends.items
  pub levels : HasBits n r.levels.items

-- what is listed stays so, but for x
pub record KeepsBut (x : ℕ) (old new : Ready) : Type 0 where
  pub rests : (e : ℕ) → (e ≡ x → ⊥) → IsTrue (has old.rests.items e) → IsTrue (has new.rests.items e)
  pub sends : (e : ℕ) → (e ≡ x → ⊥) → IsTrue (has old.sends.items e) → IsTrue (has new.sends.items e)
  pub levels : (e : ℕ) → (e ≡ x → ⊥) → IsTrue (has old.levels.items e)
      → IsTrue (has new.levels.items e)

-- what is listed stays so
pub record Keeps (old new : Ready) : Type 0 where
  pub rests : (e : ℕ) → IsTrue (has old.rests.items e) → IsTrue (has new.rests.items e)
  pub sends : (e : ℕ) → IsTrue (has old.sends.items e) → IsTrue (has new.sends.items e)
  pub levels : (e : ℕ) → IsTrue (has old.levels.items e) → IsTrue (has new.levels.items e)

-- e is the last event that was drawn, and what could come next before it was listed
pub record IsLastDrawn (f : Frame) (ranks : Option (List ℕ)) (past : List ℕ) (r : Ready) (e : ℕ) : Type 0 where
  pub before : List ℕ
  pub is : past ≡ before ++ e ∷ []
  pub steps : Steps (IsDrawnNext f ranks) [] before
  pub next : IsDrawnNext f ranks before e
  pub listed : AreListed f before r

-- the event at place p of the course is listed, and where e is above it, its whole level
abbrev pub IsFromListed : Frame → List ℕ → List ℕ → Ready → ℕ → ℕ → Type 0
IsFromListed f course past r e p =
    p < length course → IsListed f past r (event_at course p)
    × (IsTrue (is_above f e (event_at course p))
    → IsLevelListed f course past r p (length course))

-- the events that fit a rule stand in a row
pub record IsRowFor (f : Frame) (past : List ℕ) (rule : Rule) (row : List ℕ) : Type 0 where
  pub bits : HasBits (length f.events) row
  pub listed : (e : ℕ) → Fits f past rule e → IsTrue (has row e)

-- no event below n fits a rule
abbrev pub HasNoneTo : Frame → List ℕ → Rule → ℕ → Type 0
HasNoneTo f past rule n = (e : ℕ) → e < n → Fits f past rule e → ⊥

-- of the events below n that have a property this is the earliest, or none of them has it
abbrev pub IsEarliestTo : List ℕ → (ℕ → Type 0) → ℕ → Option ℕ → Type 0
IsEarliestTo ranks P n None = (x : ℕ) → x < n → P x → ⊥
IsEarliestTo ranks P n (Some e) = IsEarliest ranks (λ x. (x < n) × P x) e

-- what is drawn, and all that may come next is listed
pub record HoldsDrawing (f : Framed) (d : Drawing) : Type 0 where
  pub drawn : Holds f d.drawn
  pub room : HasRoom (length f.chart.now.events) d.ready
  pub listed : AreListed (frame_of f) d.drawn.past.items d.ready
