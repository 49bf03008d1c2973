-- What records are made of, as plain data. Texts are lists of bytes. Lines and columns are counted
-- from 1, bytes and events from 0.
use Rattle.std.specs.Prelude.{ℕ, Bool, List, Option}
use Rattle.msc_record.specs.declared.event.EventNumber.{EventNumber}
use Rattle.msc_record.specs.declared.event.Position.{Position}
use Rattle.msc_record.specs.declared.event.Statement.{Statement}
use Rattle.msc_record.specs.declared.fault.FaultPosition.{FaultPosition}
use Rattle.msc_record.specs.declared.head.Counts.{Counts}

-- a message: its name, its number if it has one, and the instance at its other end
pub record Message : Type 0 where
  pub name : List ℕ
  pub number : Option (List ℕ)
  pub other : List ℕ

-- what an event does; an action has a text
pub data EventKind : Type 0 where
  Output : Message → EventKind
  Input : Message → EventKind
  Action : List ℕ → EventKind

-- an event by its number, and where its statement is; of a chart also the bytes of the statement
pub record Event : Type 0 where
  pub event : ℕ
  pub kind : EventKind
  pub position : Position
  pub statement : Option Statement

-- the scenario of a diagram in which a race is listed, its choices, and the number of scenarios in
-- which the race counts
pub record ListedScenario : Type 0 where
  pub scenario : ℕ
  pub choices : List ℕ
  pub scenarios : ℕ

-- a race, or a pair of two rounds: its two events, and the two whose order would prevent it
pub record Entry : Type 0 where
  pub scenario : Option ListedScenario
  pub instance : List ℕ
  pub is_next : Bool
  pub kind : List ℕ
  pub is_always : Bool
  pub sentence : List ℕ
  pub notes : List (List ℕ)
  pub first : Event
  pub second : Event
  pub needed : EventNumber
  pub output : EventNumber

-- an entry of a list, with the events of a run that shows it, if one is printed
pub record ListedEntry : Type 0 where
  pub entry : Entry
  pub run : Option (List EventNumber)

-- what each record begins with: the version of the program, a file, the number of a diagram in
-- Markdown, and the exit status
pub record Opening : Type 0 where
  pub version : List ℕ
  pub file : List ℕ
  pub fence : Option ℕ
  pub status : ℕ

-- a kind for all links to an instance, or for one link
pub record Link : Type 0 where
  pub sender : Option (List ℕ)
  pub receiver : List ℕ
  pub kind : List ℕ

-- of a chart: the events that wait for each other in a ring, if no run follows the drawing; the
-- number of pairs of two rounds, if these are included; and the events whose marks accept no race,
-- if marks count
pub record CheckedChart : Type 0 where
  pub name : List ℕ
  pub ring : Option (List ℕ)
  pub again : Option ℕ
  pub stale : Option (List Event)

-- of a diagram: the instances that serve each request by itself, the number of scenarios, the
-- number of those in which no race counts, and the marks that accept no race, if marks count
pub record CheckedDiagram : Type 0 where
  pub name : List ℕ
  pub serves : List (List ℕ)
  pub scenarios : ℕ
  pub free : ℕ
  pub stale : Option (List Position)

pub data Checked : Type 0 where
  Chart : CheckedChart → Checked
  Diagram : CheckedDiagram → Checked

-- all before the list
pub record Head : Type 0 where
  pub opening : Opening
  pub queues : List ℕ
  pub links : List Link
  pub counts : Counts
  pub checked : Checked

-- a note on a fault
pub record FaultNote : Type 0 where
  pub text : List ℕ
  pub position : Option FaultPosition

-- a fault: its stage and number, its line, and its sentence
pub record Fault : Type 0 where
  pub stage : List ℕ
  pub number : Option ℕ
  pub text : List ℕ
  pub sentence : List ℕ
  pub position : Option FaultPosition
  pub notes : List FaultNote

-- what a check of a chart or a diagram found
pub record CheckRecord : Type 0 where
  pub head : Head
  pub list : List ListedEntry

-- the fault for which a text is refused, and further ones
pub record Refusal : Type 0 where
  pub opening : Opening
  pub fault : Fault
  pub further : List Fault
