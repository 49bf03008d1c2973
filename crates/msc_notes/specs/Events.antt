-- The events of a draft, with the names of their instances.
use Rattle.std.specs.Prelude.{◌≡◌, ℕ, List, map, slice_get, Option, Some, None}
use Rattle.std.specs.Option.{option_copied}
use Rattle.std.specs.List.{flat_map}
use Rattle.msc_parser.specs.declared.tree.Signal.{Signal}
use Rattle.msc_parser.specs.declared.tree.Statement.{Statement}
use Rattle.msc_parser.specs.declared.tree.Statement.TheVariants.{Message, Action}
use Rattle.msc_parser.specs.declared.tree.Section.{Section}
use Rattle.msc_parser.specs.Drafts.{statements_in}
use Rattle.msc_chart.specs.Events.{Act, MessageEnd, act_of, end_of}
use Rattle.msc_notes.specs.declared.alike.End as coded
use Rattle.msc_notes.specs.declared.event.OwnEvent as code

-- a statement of an event, and the name of its instance
pub record OwnStatement : Type 0 where
  pub own : List ℕ
  pub statement : Statement

-- such a statement
abbrev pub own_statement : List ℕ → Statement → OwnStatement
own_statement own s = record { own = own; statement = s }

-- those of a section
abbrev pub owned_in : Section → List OwnStatement
owned_in s = map (own_statement s.decl.name) (flat_map statements_in s.items)

-- those of all sections, in the order of the text
abbrev pub owned_of : List Section → List OwnStatement
owned_of ss = flat_map owned_in ss

-- what an event of the code shows
abbrev pub own_view : code.OwnEvent → OwnStatement
own_view d = record { own = d.own.now; statement = d.statement.now }

-- the statement of an event of the code
abbrev pub statement_view : code.OwnEvent → Statement
statement_view d = d.statement.now

-- the statement is an action
abbrev pub IsAction : Statement → Type 0
IsAction (Message s) = ⊥
IsAction (Action label) = Unit {0}

-- what a statement with the name of its instance does
abbrev pub act_in : OwnStatement → Act
act_in o = act_of o.own o.statement

-- what an event of the code does
abbrev pub act_view : code.OwnEvent → Act
act_view d = act_of d.own.now d.statement.now

-- the end of a message that a statement of an instance of this name draws, if it draws one
abbrev pub end_by : List ℕ → Statement → Option MessageEnd
end_by own (Message s) = Some (end_of own s)
end_by own (Action label) = None

-- the same of an event of the code
abbrev pub end_in : code.OwnEvent → Option MessageEnd
end_in d = end_by d.own.now d.statement.now

-- what an end of the code shows
abbrev pub end_view : coded.End → MessageEnd
end_view e = record {
  sends = e.sends;
  key = record { sender = e.sender.now; receiver = e.receiver.now; name = e.name.now; number = option_copied e.number };
}

-- event e of these is no message event
abbrev pub HasNoSignal : List Statement → ℕ → Type 0
HasNoSignal ss e = (s : Signal) → slice_get ss e ≡ Some (Message s) → ⊥
