-- What the code keeps while it draws: which events are drawn, and how far each line is.
use Rattle.std.specs.Prelude.{◌≡◌, ℕ, ◌<◌, Bool, false, ◌&&◌, ◌||◌, not, List, [], length, get_or, nat_lt, Option, None, Some, IsTrue}
use Rattle.msc_chart.specs.Charts.{partner}
use Rattle.msc_chart.specs.Lists.{occurs, Steps}
use Rattle.msc_picture.specs.declared.frame.Framed.{Framed}
use Rattle.msc_picture.specs.declared.drawn.Drawn.{Drawn}
use Rattle.msc_picture.specs.Courses.{AreBehind, IsReached, frame_of, ranks_of}
use Rattle.msc_picture.specs.Frames.{Frame, is_sent_as, is_above, is_queued_before, last_of, IsDrawnNext}

-- x has to be drawn before e, and is not its output
abbrev pub blocks : Frame → ℕ → ℕ → Bool
blocks f x e = (is_above f x e || is_queued_before f x e) && not (is_sent_as f x e)

-- x blocks e, and is not drawn
abbrev pub holds_up : Frame → List ℕ → ℕ → ℕ → Bool
holds_up f past x e = blocks f x e && not (occurs past x)

-- e waits for this output of its queue, if there is one
abbrev pub waits_for : Frame → List ℕ → ℕ → Option ℕ → Bool
waits_for f past e None = false
waits_for f past e (Some x) = nat_lt x (length f.events) && holds_up f past x e

-- e waits for the output before it in its queue
abbrev pub is_queued_up : Frame → List ℕ → ℕ → Bool
is_queued_up f past e = waits_for f past e (get_or f.after e None)

-- e is an input whose output is not drawn
abbrev pub lacks_output : Frame → List ℕ → ℕ → Bool
lacks_output f past e =
    is_sent_as f (partner f.events e) e && not (occurs past (partner f.events e))

-- nothing blocks e that is not drawn
abbrev pub IsClear : Frame → List ℕ → ℕ → Type 0
IsClear f past e = (x : ℕ) → x < length f.events → IsTrue (blocks f x e) → IsTrue (occurs past x)

-- these events are drawn
pub record IsDrawn (f : Frame) (ranks : Option (List ℕ)) (past : List ℕ) (last : Option ℕ) (done : List Bool) : Type 0 where
  pub steps : Steps (IsDrawnNext f ranks) [] past
  pub end : last ≡ last_of past
  pub known : (s : ℕ) → last ≡ Some s → s < length f.events
  pub long : length done ≡ length f.events
  pub told : (e : ℕ) → e < length f.events → get_or done e false ≡ occurs past e

-- the same, as the code holds it
abbrev pub HoldsDrawn : Framed → Drawn → Type 0
HoldsDrawn f d = IsDrawn (frame_of f) (ranks_of f) d.past.items d.last d.done.items

-- how far each line is, as the code holds it
abbrev pub HoldsBehind : Framed → Drawn → Type 0
HoldsBehind f d =
    AreBehind (frame_of f) f.course.items d.past.items d.firsts.items d.seconds.items
    (length f.chart.now.instances)

-- and that it stands at the first two events of line i that are left
abbrev pub HoldsLine : Framed → Drawn → ℕ → Type 0
HoldsLine f d i =
    IsReached (frame_of f) f.course.items d.past.items d.firsts.items d.seconds.items i

-- so it is of the lines below k
pub record HoldsTo (f : Framed) (d : Drawn) (k : ℕ) : Type 0 where
  pub drawn : HoldsDrawn f d
  pub behind : HoldsBehind f d
  pub reached : (i : ℕ) → i < k → HoldsLine f d i

-- and of all lines
abbrev pub Holds : Framed → Drawn → Type 0
Holds f d = HoldsTo f d (length f.chart.now.instances)
