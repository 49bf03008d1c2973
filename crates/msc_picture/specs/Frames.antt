-- In which order the events of a picture are drawn (this project's own).
use Rattle.std.specs.Prelude.{◌≡◌, ℕ, ◌<◌, ◌≤◌, ◌⊎◌, Bool, false, ◌&&◌, ◌||◌, List, [], ◌∷◌, ◌++◌, Option, None, Some, get_or, length, map, IsTrue, nat_eq, nat_lt}
use Rattle.std.specs.List.{range_with_len}
use Rattle.msc_chart.specs.declared.event.ChartEvent.{ChartEvent}
use Rattle.msc_picture.specs.declared.rule.Rule.{Rule}
use Rattle.msc_picture.specs.declared.rule.Rule.TheVariants.{Answer, Rest, Level, Send}
use Rattle.msc_chart.specs.Charts.{line, segment, partner, is_output}
use Rattle.msc_chart.specs.Lists.{occurs, IsLeast, Steps}

-- What is drawn: events of a chart, the level of each on its line, and for an output that is drawn
-- after another output of its queue, the last such one.
pub record Frame : Type 0 where
  pub events : List ChartEvent
  pub levels : List ℕ
  pub after : List (Option ℕ)

-- the level of event e
abbrev pub level : Frame → ℕ → ℕ
level f e = get_or f.levels e 0

-- x is drawn above y: both are on one line, and x is on a smaller level
abbrev pub is_above : Frame → ℕ → ℕ → Bool
is_above f x y = nat_eq (line f.events x) (line f.events y) && nat_lt (level f x) (level f y)

-- x is an output, and y its input
abbrev pub is_sent_as : Frame → ℕ → ℕ → Bool
is_sent_as f x y = is_output f.events x && nat_eq (partner f.events x) y

-- there is a number, and it is x
abbrev pub is_some : Option ℕ → ℕ → Bool
is_some None x = false
is_some (Some y) x = nat_eq y x

-- x is the output before output y in a queue
abbrev pub is_queued_before : Frame → ℕ → ℕ → Bool
is_queued_before f x y = is_some (get_or f.after y None) x

-- x has to be drawn before y
abbrev pub goes_first : Frame → ℕ → ℕ → Bool
goes_first f x y = is_sent_as f x y || (is_above f x y || is_queued_before f x y)

-- e may follow these events: it is new, and all that has to be drawn before it is among them
pub record MayFollow (f : Frame) (past : List ℕ) (e : ℕ) : Type 0 where
  pub event : e < length f.events
  pub new : occurs past e ≡ false
  pub behind : (x : ℕ) → x < length f.events → IsTrue (goes_first f x e) → IsTrue (occurs past x)

-- the last of a list
abbrev pub last_of : List ℕ → Option ℕ
last_of [] = None
last_of (x ∷ []) = Some x
last_of (x ∷ y ∷ ys) = last_of (y ∷ ys)

-- e is the input of this output, if there is one
abbrev pub answers : Frame → Option ℕ → ℕ → Bool
answers f None e = false
answers f (Some s) e = is_sent_as f s e

-- How an event may come next, the first rule before the others: it is the input of the last event; it
-- is an input or an action; it is an output, and its input may follow right behind it; it is an output.
abbrev pub Fits : Frame → List ℕ → Rule → ℕ → Type 0
Fits f past Answer e = MayFollow f past e × IsTrue (answers f (last_of past) e)
Fits f past Rest e = MayFollow f past e × (is_output f.events e ≡ false)
Fits f past Level e =
    MayFollow f past e × IsTrue (is_output f.events e)
    × MayFollow f (past ++ e ∷ []) (partner f.events e)
Fits f past Send e = MayFollow f past e × IsTrue (is_output f.events e)

-- no event fits a rule
abbrev pub HasNone : Frame → List ℕ → Rule → Type 0
HasNone f past rule = (e : ℕ) → Fits f past rule e → ⊥

-- the rank of event e, for which a list without a number for e has 0
abbrev pub rank_of : List ℕ → ℕ → ℕ
rank_of ranks e = get_or ranks e 0

-- x is no later than y: its rank is less, or it is the same and x is not the greater number
abbrev pub IsNoLater : List ℕ → ℕ → ℕ → Type 0
IsNoLater ranks x y =
    (rank_of ranks x < rank_of ranks y) ⊎ ((rank_of ranks x ≡ rank_of ranks y) × (x ≤ y))

-- e is the earliest event with a property, by these ranks
pub record IsEarliest (ranks : List ℕ) (P : ℕ → Type 0) (e : ℕ) : Type 0 where
  pub itself : P e
  pub earliest : (x : ℕ) → P x → IsNoLater ranks e x

-- After these e is drawn next. The input of the last event precedes all others. Then, if ranks are
-- given, e is the earliest event that may follow. Otherwise it is the least event that fits the
-- first rule that any event fits.
pub data IsDrawnNext (f : Frame) (ranks : Option (List ℕ)) (past : List ℕ) : ℕ → Type 0 where
  answering : {e : ℕ} → IsLeast (Fits f past Answer) e → IsDrawnNext f ranks past e
  ranking : {e : ℕ} (given : List ℕ) → ranks ≡ Some given → HasNone f past Answer
      → IsEarliest given (MayFollow f past) e → IsDrawnNext f ranks past e
  resting : {e : ℕ} → ranks ≡ None → HasNone f past Answer → IsLeast (Fits f past Rest) e
      → IsDrawnNext f ranks past e
  levelling : {e : ℕ} → ranks ≡ None → HasNone f past Answer → HasNone f past Rest
      → IsLeast (Fits f past Level) e → IsDrawnNext f ranks past e
  sending : {e : ℕ} → ranks ≡ None → HasNone f past Answer → HasNone f past Rest
      → HasNone f past Level → IsLeast (Fits f past Send) e → IsDrawnNext f ranks past e

-- the list of all events that begins empty and goes on so
pub record IsDrawingOrder (f : Frame) (ranks : Option (List ℕ)) (order : List ℕ) : Type 0 where
  pub steps : Steps (IsDrawnNext f ranks) [] order
  pub whole : (e : ℕ) → e < length f.events → IsTrue (occurs order e)

-- a chart: its levels are its segments, and no output waits for another one
abbrev pub chart_frame : List ChartEvent → Frame
chart_frame events = record {
  events = events;
  levels = map (segment events) (range_with_len 0 (length events));
  after = [];
}
