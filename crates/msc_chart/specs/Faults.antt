-- What makes a draft no chart, and which of several faults is answered.
use Rattle.std.specs.Prelude.{◌≡◌, ℕ, ◌<◌, ◌≤◌, ◌⊎◌, Bool, true, false, List, length, count_by}
use Rattle.msc_chart.specs.declared.TheConstants.{ACTION_LIMIT, INSTANCE_LIMIT, MESSAGE_LIMIT}
use Rattle.msc_parser.specs.Grammar.{Tree}
use Rattle.msc_chart.specs.Lists.{StandsAt, Occurs}
use Rattle.msc_chart.specs.declared.fault.ChartFault.{ChartFault}
use Rattle.msc_chart.specs.declared.fault.ChartFault.TheVariants.{TooManyInstances, TwiceInstance, HeaderWithoutBody, UnknownAddress, TooManyMessages, TooManyActions, TwiceEvent, UnmatchedOut, UnmatchedIn, Cyclic, Memory}
use Rattle.msc_chart.specs.Events.{MessageEnd, Act, instances_of, header_of, acts_of, address_of, other_end, is_sent, is_taken, is_action}
use Rattle.msc_chart.specs.Events.Act.{OfMessage, Action}
use Rattle.msc_chart.specs.Charts.{Visual}
use Rattle.msc_chart.specs.Drawings.{chart_events}

-- the element at place i is equal to an earlier one
abbrev pub IsRepeat : {T : Type 0} → List T → ℕ → Type 0
IsRepeat {T} xs i = (x : T) × StandsAt xs i x × ((j : ℕ) × (j < i) × StandsAt xs j x)

-- the element at place i is such
abbrev pub HoldsAt : {T : Type 0} → (T → Type 0) → List T → ℕ → Type 0
HoldsAt {T} P xs i = (x : T) × StandsAt xs i x × P x

-- the name is that of no section
abbrev pub IsUnknown : List (List ℕ) → List ℕ → Type 0
IsUnknown names name = Occurs names name → ⊥

-- the act is an end of a message, and such
abbrev pub OfEnd : (MessageEnd → Type 0) → Act → Type 0
OfEnd P (OfMessage x) = P x
OfEnd P (Action text) = ⊥

-- the act at place e is an end of a message that stands earlier too
abbrev pub IsTwice : List Act → ℕ → Type 0
IsTwice acts e = (x : MessageEnd) × StandsAt acts e (OfMessage x) × ((j : ℕ) × (j < e) × StandsAt acts j (OfMessage x))

-- an output, or an input, has no other end
pub record IsUnmatched (sends : Bool) (acts : List Act) (end : MessageEnd) : Type 0 where
  pub kind : end.sends ≡ sends
  pub alone : Occurs acts (OfMessage (other_end end)) → ⊥

-- the messages are too many: their outputs, or their inputs
abbrev pub AreTooMany : List Act → Type 0
AreTooMany acts = (MESSAGE_LIMIT < count_by is_sent acts) ⊎ (MESSAGE_LIMIT < count_by is_taken acts)

-- the fault stands in the draft
unfoldable pub Stands : Tree → ChartFault → Type 0
Stands d TooManyInstances = INSTANCE_LIMIT < length (instances_of d)
Stands d (TwiceInstance i) = IsRepeat (instances_of d) i
Stands d (HeaderWithoutBody k) = HoldsAt (IsUnknown (instances_of d)) (header_of d) k
Stands d (UnknownAddress e) = HoldsAt (OfEnd (λ end. IsUnknown (instances_of d) (address_of end))) (acts_of d) e
Stands d TooManyMessages = AreTooMany (acts_of d)
Stands d TooManyActions = ACTION_LIMIT < count_by is_action (acts_of d)
Stands d (TwiceEvent e) = IsTwice (acts_of d) e
Stands d (UnmatchedOut e) = HoldsAt (OfEnd (IsUnmatched true (acts_of d))) (acts_of d) e
Stands d (UnmatchedIn e) = HoldsAt (OfEnd (IsUnmatched false (acts_of d))) (acts_of d) e
Stands d (Cyclic e) = (e < length (chart_events d)) × Visual (chart_events d) e e
Stands d Memory = ⊥

-- the lower, the earlier it is answered
abbrev pub rank : ChartFault → ℕ
rank TooManyInstances = 1
rank (TwiceInstance i) = 2
rank (HeaderWithoutBody k) = 3
rank (UnknownAddress e) = 4
rank TooManyMessages = 5
rank TooManyActions = 6
rank (TwiceEvent e) = 7
rank (UnmatchedOut e) = 8
rank (UnmatchedIn e) = 9
rank (Cyclic e) = 10
rank Memory = 11

-- the section, header name or event
abbrev pub place : ChartFault → ℕ
place TooManyInstances = 0
place (TwiceInstance i) = i
place (HeaderWithoutBody k) = k
place (UnknownAddress e) = e
place TooManyMessages = 0
place TooManyActions = 0
place (TwiceEvent e) = e
place (UnmatchedOut e) = e
place (UnmatchedIn e) = e
place (Cyclic e) = e
place Memory = 0

-- the lowest fault, at its least place
pub record IsFirstFault (d : Tree) (f : ChartFault) : Type 0 where
  pub stands : Stands d f
  pub first : (g : ChartFault) → Stands d g → (rank f < rank g) ⊎ ((rank f ≡ rank g) × (place f ≤ place g))

-- no fault stands
abbrev pub IsFaultless : Tree → Type 0
IsFaultless d = (f : ChartFault) → Stands d f → ⊥
