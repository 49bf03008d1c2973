-- The events of a chart, their drawn order, and their visual order.
use Rattle.std.specs.Prelude.{◌≡◌, ℕ, ◌<◌, ◌≤◌, Bool, true, false, ◌&&◌, List, [], length, get_or, count_by, IsTrue, nat_eq, nat_lt}
use Rattle.msc_chart.specs.declared.event.EventKind.{EventKind}
use Rattle.msc_chart.specs.declared.event.EventKind.TheVariants.{Output, Input, Local}
use Rattle.msc_chart.specs.declared.event.ChartEvent.{ChartEvent}
use Rattle.msc_chart.specs.Lists.{occurs, Steps}

-- what stands at a number past the last event; no rule speaks of it
abbrev pub no_event : ChartEvent
no_event = record { line = 0; segment = 0; kind = Output; partner = 0; subject = 0 }

-- event e
abbrev pub at : List ChartEvent → ℕ → ChartEvent
at events e = get_or events e no_event

-- the line of event e, which is the number of its instance
unfoldable pub line : List ChartEvent → ℕ → ℕ
line events e = (at events e).line

-- the segment of event e on its line; a coregion (Z.120) is one segment
unfoldable pub segment : List ChartEvent → ℕ → ℕ
segment events e = (at events e).segment

-- whether event e is an output or an input of a message, or a local event (Z.120)
unfoldable pub kind : List ChartEvent → ℕ → EventKind
kind events e = (at events e).kind

-- the event at the other end of the message of event e; a local event is its own
unfoldable pub partner : List ChartEvent → ℕ → ℕ
partner events e = (at events e).partner

-- the message of event e, an output or an input
unfoldable pub message : List ChartEvent → ℕ → ℕ
message events e = (at events e).subject

-- the action of event e, a local event
unfoldable pub action : List ChartEvent → ℕ → ℕ
action events e = (at events e).subject

-- an output puts a message into its queue
abbrev pub sends : EventKind → Bool
sends Output = true
sends Input = false
sends Local = false

-- an input takes one
abbrev pub takes : EventKind → Bool
takes Output = false
takes Input = true
takes Local = false

-- a local event does neither
abbrev pub acts : EventKind → Bool
acts Output = false
acts Input = false
acts Local = true

-- an instance decides when its outputs and its local events happen, and not when an input does
abbrev pub controls : EventKind → Bool
controls Output = true
controls Input = false
controls Local = true

-- e is an output of the chart
unfoldable pub is_output : List ChartEvent → ℕ → Bool
is_output events e = nat_lt e (length events) && sends (kind events e)

-- e is an input of the chart
unfoldable pub is_input : List ChartEvent → ℕ → Bool
is_input events e = nat_lt e (length events) && takes (kind events e)

-- e is a local event of the chart: an action of its instance
unfoldable pub is_local : List ChartEvent → ℕ → Bool
is_local events e = nat_lt e (length events) && acts (kind events e)

-- e is controlled: its instance decides when it comes. It is an output or a local event of the chart.
unfoldable pub is_controlled : List ChartEvent → ℕ → Bool
is_controlled events e = nat_lt e (length events) && controls (kind events e)

-- x is drawn before y: both are events of the chart, on one line, and x is in a smaller segment. So
-- the events of a coregion are unordered among themselves.
unfoldable pub before : List ChartEvent → ℕ → ℕ → Bool
before events x y =
    (nat_lt x (length events) && nat_lt y (length events))
    && (nat_eq (line events x) (line events y) && nat_lt (segment events x) (segment events y))

-- the visual order (Alur, Holzmann, Peled 1996): the least transitive relation that holds the drawn
-- order of each line and puts each output before its input
pub data Visual (events : List ChartEvent) : ℕ → ℕ → Type 0 where
  seen : {x y : ℕ} → IsTrue (before events x y) → Visual events x y
  passed : {s r : ℕ} → IsTrue (is_output events s) → partner events s ≡ r → Visual events s r
  linked : {x y z : ℕ} → Visual events x y → Visual events y z → Visual events x z

-- no event precedes itself
abbrev pub IsAcyclic : List ChartEvent → Type 0
IsAcyclic events = (e : ℕ) → e < length events → Visual events e e → ⊥

-- partners lead to and fro between the outputs and the inputs; a local event is its own partner
pub record IsMatched (events : List ChartEvent) : Type 0 where
  pub in_range : (e : ℕ) → e < length events → partner events e < length events
  pub to_and_fro : (e : ℕ) → e < length events → partner events (partner events e) ≡ e
  pub other_kind : (e : ℕ) → e < length events → is_output events (partner events e) ≡ is_input events e
  pub own : (e : ℕ) → IsTrue (is_local events e) → partner events e ≡ e

-- events are numbered line by line, and down each line: so a line is a contiguous range of numbers,
-- along which segments do not fall
pub record IsInTextOrder (events : List ChartEvent) : Type 0 where
  pub lines : (x y : ℕ) → x ≤ y → y < length events → line events x ≤ line events y
  pub rising : (x y : ℕ) → x ≤ y → y < length events → line events x ≡ line events y → segment events x ≤ segment events y

-- each event is on one of so many lines, and a line has no more segments than the chart has events
pub record AreOnLines (lines : ℕ) (events : List ChartEvent) : Type 0 where
  pub on_line : (e : ℕ) → e < length events → line events e < lines
  pub few : (e : ℕ) → e < length events → segment events e < length events

-- the number of the first event that is on none of the first i lines, or of all events
abbrev pub line_start : List ChartEvent → ℕ → ℕ
line_start events i = count_by (λ x. nat_lt x.line i) events

-- e and f are on one line, and in one segment of it
abbrev pub ShareSegment : List ChartEvent → ℕ → ℕ → Type 0
ShareSegment events e f = (line events e ≡ line events f) × (segment events e ≡ segment events f)

-- the events from e up to end share the segment of e; those of its line from end on are drawn after e
pub record IsSegmentEnd (events : List ChartEvent) (e end : ℕ) : Type 0 where
  pub later : e < end
  pub within : end ≤ length events
  pub together : (f : ℕ) → e ≤ f → f < end → ShareSegment events e f
  pub past : (f : ℕ) → end ≤ f → f < length events → line events e ≡ line events f → IsTrue (before events e f)

-- the events from e up to end are on the line of e, and none from end on is
pub record IsLineEnd (events : List ChartEvent) (e end : ℕ) : Type 0 where
  pub later : e < end
  pub within : end ≤ length events
  pub together : (f : ℕ) → e ≤ f → f < end → line events e ≡ line events f
  pub past : (f : ℕ) → end ≤ f → f < length events → line events e ≡ line events f → ⊥

-- e may come after these: it is an event, it is not among them, and what precedes it visibly is
pub record Follows (events : List ChartEvent) (past : List ℕ) (e : ℕ) : Type 0 where
  pub event : e < length events
  pub new : occurs past e ≡ false
  pub precedes : (x : ℕ) → Visual events x e → IsTrue (occurs past x)

-- a list of all events, each once, in which whatever precedes an event visibly stands earlier
pub record IsLinearOrder (events : List ChartEvent) (order : List ℕ) : Type 0 where
  pub steps : Steps (Follows events) [] order
  pub whole : (e : ℕ) → e < length events → IsTrue (occurs order e)
