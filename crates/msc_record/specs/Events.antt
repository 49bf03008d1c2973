-- Events in JSON.
use Rattle.std.specs.Prelude.{ℕ, List, [], ◌∷◌, ◌++◌, Option, None, Some, codes}
use Rattle.json.specs.Json.{Json, string}
use Rattle.msc_record.specs.declared.event.EventNumber.{EventNumber}
use Rattle.msc_record.specs.declared.event.Position.{Position}
use Rattle.msc_record.specs.declared.event.Statement.{Statement}
use Rattle.msc_record.specs.Members.{Member, array_of, natural, object_of, or_null, text}
use Rattle.msc_record.specs.Plain.{Event, EventKind, Message}
use Rattle.msc_record.specs.Plain.EventKind.{Output, Input, Action}

abbrev pub position_members : Position → List Member
position_members p = (codes "line", natural p.line) ∷ (codes "column", natural p.column) ∷ []

abbrev pub position_json : Position → Json
position_json p = object_of (position_members p)

-- the bytes of a statement, which a chart has
abbrev pub statement_members : Option Statement → List Member
statement_members None = []
statement_members (Some s) =
    (codes "byte", natural s.byte) ∷ (codes "length", natural s.length) ∷ []

abbrev pub message_members : Message → List Member
message_members m =
    (codes "message", text m.name) ∷ (codes "number", or_null text m.number)
    ∷ (codes "other", text m.other) ∷ []

-- what an event does
abbrev pub kind_members : EventKind → List Member
kind_members (Output m) = (codes "way", string (codes "out")) ∷ message_members m
kind_members (Input m) = (codes "way", string (codes "in")) ∷ message_members m
kind_members (Action t) = (codes "way", string (codes "action")) ∷ (codes "text", text t) ∷ []

abbrev pub event_members : Event → List Member
event_members e =
    (codes "event", natural e.event)
    ∷ (kind_members e.kind ++ (position_members e.position ++ statement_members e.statement))

abbrev pub event_json : Event → Json
event_json e = object_of (event_members e)

-- an event by its number; of a pair of two rounds with its round
abbrev pub number_in : ℕ → Option ℕ → Json
number_in event None = natural event
number_in event (Some round) = array_of (natural event ∷ natural round ∷ [])

abbrev pub number_json : EventNumber → Json
number_json e = number_in e.event e.round
