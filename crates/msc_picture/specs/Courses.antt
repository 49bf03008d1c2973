-- How far each line of a picture is drawn: what the code keeps so that it need not look at all events
-- for each.
use Rattle.std.specs.Prelude.{◌≡◌, ℕ, ◌+◌, ◌<◌, ◌≤◌, Bool, false, ◌&&◌, not, List, length, get_or, vec_len, IsTrue, Option, option_copied}
use Rattle.msc_chart.specs.Charts.{line}
use Rattle.msc_chart.specs.Lists.{occurs}
use Rattle.msc_picture.specs.declared.frame.Framed.{Framed}
use Rattle.msc_picture.specs.Frames.{Frame, level, is_above, is_sent_as}

-- what is drawn, as the code holds it
abbrev pub frame_of : Framed → Frame
frame_of f = record { events = f.chart.now.events; levels = f.levels.items; after = f.after.items }

-- the ranks by which its events are drawn, if there are any
abbrev pub ranks_of : Framed → Option (List ℕ)
ranks_of f = option_copied f.ranks

-- the event at a place of a course
abbrev pub event_at : List ℕ → ℕ → ℕ
event_at course p = get_or course p 0

-- x and y are on one level of one line
pub record ShareLevel (f : Frame) (x y : ℕ) : Type 0 where
  pub line : line f.events x ≡ line f.events y
  pub level : level f x ≡ level f y

-- a list of all events, each once, along which the levels of each line rise, each level as a whole
pub record IsCourse (f : Frame) (course : List ℕ) : Type 0 where
  pub known : (p : ℕ) → p < length course → event_at course p < length f.events
  pub all : (e : ℕ) → e < length f.events
      → (p : ℕ) × (p < length course) × (event_at course p ≡ e)
  pub once : (p q : ℕ) → p < q → q < length course → event_at course p ≡ event_at course q → ⊥
  pub rising : (p q : ℕ) → p < q → q < length course
      → line f.events (event_at course p) ≡ line f.events (event_at course q)
      → level f (event_at course p) ≤ level f (event_at course q)
  pub together : (p q r : ℕ) → p ≤ q → q ≤ r → r < length course
      → ShareLevel f (event_at course p) (event_at course r)
      → ShareLevel f (event_at course p) (event_at course q)

-- a frame with a level for each event, and a course
pub record IsLaid (f : Framed) : Type 0 where
  pub long : vec_len f.levels ≡ length f.chart.now.events
  pub course : IsCourse (frame_of f) f.course.items

-- from place p of a course up to place q each event of line i is drawn
abbrev pub IsDrawnTo : Frame → List ℕ → List ℕ → ℕ → ℕ → ℕ → Type 0
IsDrawnTo f course past i p q =
    (k : ℕ) → p ≤ k → k < q → line f.events (event_at course k) ≡ i
    → IsTrue (occurs past (event_at course k))

-- at place p stands an event of line i that is left, or the course ends there
abbrev pub IsLeftAt : Frame → List ℕ → List ℕ → ℕ → ℕ → Type 0
IsLeftAt f course past i p =
    p < length course
    → (line f.events (event_at course p) ≡ i) × (occurs past (event_at course p) ≡ false)

-- place q is the first from place p on with an event of line i that is left
pub record IsNextLeft (f : Frame) (course past : List ℕ) (i p q : ℕ) : Type 0 where
  pub within : q ≤ length course
  pub later : p ≤ length course → p ≤ q
  pub drawn : IsDrawnTo f course past i p q
  pub left : IsLeftAt f course past i q

-- before the first place of line i all of it is drawn, and so between that and the second one
pub record IsBehind (f : Frame) (course past firsts seconds : List ℕ) (i : ℕ) : Type 0 where
  pub first_within : get_or firsts i 0 ≤ length course
  pub second_within : get_or seconds i 0 ≤ length course
  pub first : IsDrawnTo f course past i 0 (get_or firsts i 0)
  pub second : IsDrawnTo f course past i (get_or firsts i 0 + 1) (get_or seconds i 0)

-- so many lines have such places
pub record AreBehind (f : Frame) (course past firsts seconds : List ℕ) (lines : ℕ) : Type 0 where
  pub firsts_long : length firsts ≡ lines
  pub seconds_long : length seconds ≡ lines
  pub on_line : (e : ℕ) → e < length f.events → line f.events e < lines
  pub behind : (i : ℕ) → i < lines → IsBehind f course past firsts seconds i

-- the two places of line i are those of the first two events of it that are left
pub record IsReached (f : Frame) (course past firsts seconds : List ℕ) (i : ℕ) : Type 0 where
  pub first : IsLeftAt f course past i (get_or firsts i 0)
  pub second : IsLeftAt f course past i (get_or seconds i 0)
  pub apart : get_or firsts i 0 < length course → get_or firsts i 0 < get_or seconds i 0

-- x is above e, and is not its output
abbrev pub is_over : Frame → ℕ → ℕ → Bool
is_over f x e = is_above f x e && not (is_sent_as f x e)

-- all events over e are drawn
abbrev pub IsOpen : Frame → List ℕ → ℕ → Type 0
IsOpen f past e = (x : ℕ) → x < length f.events → IsTrue (is_over f x e) → IsTrue (occurs past x)

-- at place p stands the first event that is left on the line of e and is not its output, if any is
pub record IsFirstOther (f : Frame) (course past : List ℕ) (e p : ℕ) : Type 0 where
  pub least : (x : ℕ) → x < length f.events → line f.events x ≡ line f.events e
      → occurs past x ≡ false → is_sent_as f x e ≡ false
      → (p < length course) × (level f (event_at course p) ≤ level f x)
  pub line : p < length course → line f.events (event_at course p) ≡ line f.events e
  pub left : p < length course → occurs past (event_at course p) ≡ false
  pub other : p < length course → is_sent_as f (event_at course p) e ≡ false
