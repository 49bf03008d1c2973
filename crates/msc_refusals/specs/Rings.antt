-- Events of a draft that wait for each other, as a diagnostic.
use Rattle.std.specs.Prelude.{◌≡◌, ℕ, Bool, cond, not, List, All, Some, map, slice_get}
use Rattle.std.specs.List.{prefix_len}
use Rattle.msc_chart.specs.Events.{same_name}
use Rattle.msc_chart.specs.declared.queue.LinkKind.TheVariants.{Pair}
use Rattle.msc_diagnostic.specs.declared.source.LineEnds.TheVariants.{LineFeed}
use Rattle.msc_full.specs.Blocks.{texts_of}
use Rattle.msc_full.specs.Rings.{waiting_text}
use Rattle.msc_full.specs.declared.event.ShownText.{ShownText}
use Rattle.msc_full.specs.declared.step.ShownStep.{ShownStep}
use Rattle.msc_notes.specs.Events.{owned_of, OwnStatement}
use Rattle.msc_parser.specs.Grammar.{Tree}
use Rattle.msc_parser.specs.declared.tree.Section.{Section}
use Rattle.msc_parser.specs.declared.tree.Statement.{Statement}
use Rattle.msc_parser.specs.declared.tree.Statement.TheVariants.{Message, Action}
use Rattle.msc_place.specs.Positions.{IsPosition}
use Rattle.msc_place.specs.Standing.{BeginsEvent, EndsEvent}
use Rattle.msc_place.specs.declared.places.EventPlace.{EventPlace}
use Rattle.msc_shown_chart.specs.Shown.{plain_event, PlainEvent}
use Rattle.msc_shown_chart.specs.Words.{name_said, plain_words, position_said}
use Rattle.msc_speech.specs.Messages.{action_said, message_said}
use Rattle.msc_wording.specs.declared.event.Act.{Act}
use Rattle.msc_wording.specs.declared.event.Act.TheVariants.{Acts, Receives, Sends}
use Rattle.msc_refusals.specs.Ends.{is_output}
use Rattle.msc_refusals.specs.declared.answer.RefusedText.{RefusedText}
use Rattle.msc_refusals.specs.declared.ring.RingEvent.{RingEvent}

-- what a statement does
abbrev pub act_of : Statement → Act
act_of (Message s) = cond (is_output s.direction) Sends Receives
act_of (Action label) = Acts

-- what its message or its action is called that stands on a line
abbrev pub statement_said : Statement → ℕ → List ℕ
statement_said (Message s) line = message_said s.name s.number
statement_said (Action label) line = action_said label line

-- the instance at its other end; of an action its own
abbrev pub peer_name : List ℕ → Statement → List ℕ
peer_name own (Message s) = s.address
peer_name own (Action label) = own

-- the number of the first section with a name, or that of all sections if none has it
abbrev pub is_other : List ℕ → Section → Bool
is_other name s = not (same_name s.decl.name name)

abbrev pub index_of : List ℕ → List Section → ℕ
index_of name ss = prefix_len (is_other name) ss

-- an event of a ring as findings show it
abbrev pub plain_ring : RingEvent → PlainEvent
plain_ring x = record { act = x.act; owner = x.owner; peer = x.peer; kind = Pair; queue = 0; words = plain_words x.words }

-- this is shown of an event whose statement stands at these places
pub record IsPlacedRing (r : RefusedText) (t : Tree) (own : OwnStatement) (at : EventPlace) (x : PlainEvent) : Type 0 where
  pub first : x.words.first ≡ at.start
  pub past : x.words.past ≡ at.«end»
  pub column : ℕ
  pub position : IsPosition r.text.now at.start x.words.line column
  pub place : x.words.place ≡ position_said r.file.now x.words.line column
  pub message : x.words.message ≡ statement_said own.statement x.words.line
  pub act : x.act ≡ act_of own.statement
  pub owner : x.owner ≡ index_of own.own t.sections
  pub peer : x.peer ≡ index_of (peer_name own.own own.statement) t.sections

-- this is shown of some event of a draft
pub record IsRingEvent (r : RefusedText) (t : Tree) (x : PlainEvent) : Type 0 where
  pub e : ℕ
  pub own : OwnStatement
  pub listed : slice_get (owned_of t.sections) e ≡ Some own
  pub at : EventPlace
  pub begins : BeginsEvent r.text.now t e at.start
  pub ends : EndsEvent r.text.now t e at.«end»
  pub placed : IsPlacedRing r t own at x

abbrev pub AreRing : RefusedText → Tree → List PlainEvent → Type 0
AreRing r t xs = All (IsRingEvent r t) xs

-- these events of instances with these names wait for each other by these steps, which is printed so
pub record IsWaiting (text : List ℕ) (colours : Bool) (names : List (List ℕ)) (events : List PlainEvent) (steps : List ShownStep) (printed : List ℕ) : Type 0 where
  pub shown : ShownText
  pub source : shown.source.now.text.now ≡ text
  pub ends : shown.source.now.ends ≡ LineFeed
  pub colours_are : shown.colours ≡ colours
  pub names_are : texts_of shown.names.now ≡ names
  pub events_are : map plain_event shown.events.now ≡ events
  pub printed_is : printed ≡ waiting_text shown steps

-- some events of a draft wait for each other, which is printed so; which do, and by which steps, is
-- what the notes on the fault have
pub record IsRingBlock (r : RefusedText) (t : Tree) (printed : List ℕ) : Type 0 where
  pub events : List PlainEvent
  pub are : AreRing r t events
  pub steps : List ShownStep
  pub waiting : IsWaiting r.text.now r.colours (map (λ s. name_said s.decl.name) t.sections) events steps printed
