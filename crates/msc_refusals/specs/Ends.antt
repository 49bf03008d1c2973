-- The event that a fault is about, as sentences name it.
use Rattle.std.specs.Prelude.{◌≡◌, ℕ, Bool, true, false, List, ◌++◌, Option, None, Some, codes, slice_get}
use Rattle.std.specs.String.{string_bytes}
use Rattle.msc_chart.specs.declared.fault.ChartFault.{ChartFault}
use Rattle.msc_chart.specs.declared.fault.ChartFault.TheVariants as charts
use Rattle.msc_fault_words.specs.declared.message.MessageEnd.{MessageEnd}
use Rattle.msc_notes.specs.Events.{OwnStatement}
use Rattle.msc_parser.specs.declared.tree.Direction.{Direction}
use Rattle.msc_parser.specs.declared.tree.Direction.TheVariants.{Output, Input}
use Rattle.msc_parser.specs.declared.tree.Signal.{Signal}
use Rattle.msc_parser.specs.declared.tree.Statement.{Statement}
use Rattle.msc_parser.specs.declared.tree.Statement.TheVariants.{Message, Action}
use Rattle.msc_shown_chart.specs.Words.{name_said}
use Rattle.msc_refusals.specs.declared.end.EndWords.{EndWords}

-- an end of a message: whether it is an output, the message, its instance, and the other one
pub record SaidEnd : Type 0 where
  pub sends : Bool
  pub message : List ℕ
  pub owner : List ℕ
  pub address : List ℕ

-- that of the code
abbrev pub plain_end : EndWords → SaidEnd
plain_end w = record {
  sends = w.sends;
  message = string_bytes w.message;
  owner = string_bytes w.owner;
  address = string_bytes w.address;
}

-- it is lent so
pub record IsLent (said : SaidEnd) (end : MessageEnd) : Type 0 where
  pub sends : end.sends ≡ said.sends
  pub message : end.message.now ≡ said.message
  pub owner : end.owner.now ≡ said.owner
  pub address : end.address.now ≡ said.address

abbrev pub AreLent : Option SaidEnd → Option MessageEnd → Type 0
AreLent None None = Unit {0}
AreLent (Some said) (Some end) = IsLent said end
AreLent said end = ⊥

abbrev pub is_output : Direction → Bool
is_output Output = true
is_output Input = false

-- the identifier of a message: its name, and its number if it has one
unfoldable pub number_part : List ℕ → List ℕ
number_part number = codes ", " ++ number

abbrev pub identified : List ℕ → Option (List ℕ) → List ℕ
identified name None = name_said name
identified name (Some number) = name_said name ++ number_part (name_said number)

-- an end of a message, of an instance with this name
abbrev pub signal_said : List ℕ → Signal → SaidEnd
signal_said own s = record {
  sends = is_output s.direction;
  message = identified s.name s.number;
  owner = name_said own;
  address = name_said s.address;
}

abbrev pub end_by : List ℕ → Statement → Option SaidEnd
end_by own (Message s) = Some (signal_said own s)
end_by own (Action label) = None

abbrev pub end_in : OwnStatement → Option SaidEnd
end_in o = end_by o.own o.statement

-- the event of a fault of a message
abbrev pub event_of : ChartFault → Option ℕ
event_of (charts.TwiceEvent e) = Some e
event_of (charts.UnmatchedOut e) = Some e
event_of (charts.UnmatchedIn e) = Some e
event_of fault = None

abbrev pub said_at : Option OwnStatement → Option SaidEnd
said_at None = None
said_at (Some event) = end_in event

-- that event, among all events of a draft, if it is an end of a message
abbrev pub said_if : List OwnStatement → Option ℕ → Option SaidEnd
said_if events None = None
said_if events (Some e) = said_at (slice_get events e)

abbrev pub said_of : List OwnStatement → ChartFault → Option SaidEnd
said_of events fault = said_if events (event_of fault)
