-- The events of a draft, in the order of its text, over all sections.
use Rattle.std.specs.Prelude.{ℕ, ◌+◌, Bool, true, false, cond, ◌&&◌, not, List, [], ◌∷◌, ◌++◌, Option, None, Some, map, nat_eq}
use mathlib.Core.Bool.{beq}
use Rattle.std.specs.Cmp.Lexicographic.{pointwise}
use Rattle.msc_parser.specs.declared.tree.Direction.{Direction}
use Rattle.msc_parser.specs.declared.tree.Direction.TheVariants.{Output, Input}
use Rattle.msc_parser.specs.declared.tree.Signal.{Signal}
use Rattle.msc_parser.specs.declared.tree.Statement.{Statement}
use Rattle.msc_parser.specs.declared.tree.Statement.TheVariants as statements
use Rattle.msc_parser.specs.declared.tree.Item.{Item}
use Rattle.msc_parser.specs.declared.tree.Item.TheVariants.{Single, Coregion}
use Rattle.msc_parser.specs.declared.tree.Section.{Section}
use Rattle.msc_parser.specs.Grammar.{Tree}

-- what an output and its input have in common
pub record Key : Type 0 where
  pub sender : List ℕ
  pub receiver : List ℕ
  pub name : List ℕ
  pub number : Option (List ℕ)

-- an end of a message: an output, or an input
pub record MessageEnd : Type 0 where
  pub sends : Bool
  pub key : Key

-- what an event does: it is an end of a message, or an action (Z.120) with its text
pub data Act : Type 0 where
  OfMessage : MessageEnd → Act
  Action : List ℕ → Act

-- an event of a draft: its line, its segment there, and what it does
pub record DraftEvent : Type 0 where
  pub line : ℕ
  pub segment : ℕ
  pub act : Act

-- the end of a message that a statement of an instance of this name draws
abbrev pub end_by : Direction → List ℕ → Signal → MessageEnd
end_by Output own s =
    record { sends = true; key = record { sender = own; receiver = s.address; name = s.name; number = s.number } }
end_by Input own s =
    record { sends = false; key = record { sender = s.address; receiver = own; name = s.name; number = s.number } }

-- the same by the way of the statement itself
abbrev pub end_of : List ℕ → Signal → MessageEnd
end_of own s = end_by s.direction own s

-- what a statement of an instance of this name does
abbrev pub act_of : List ℕ → Statement → Act
act_of own (statements.Message s) = OfMessage (end_of own s)
act_of own (statements.Action text) = Action text

-- the event that a statement draws
abbrev pub drawn : ℕ → List ℕ → ℕ → Statement → DraftEvent
drawn line own segment s = record { line = line; segment = segment; act = act_of own s }

-- the events of an item whose segment, if it has one, is this
abbrev pub events_of_item : ℕ → List ℕ → ℕ → Item → List DraftEvent
events_of_item line own segment (Single s) = drawn line own segment s ∷ []
events_of_item line own segment (Coregion ss) = map (drawn line own segment) ss

-- the segment after an item: an empty coregion takes none
abbrev pub next_segment : ℕ → Item → ℕ
next_segment segment (Single s) = segment + 1
next_segment segment (Coregion []) = segment
next_segment segment (Coregion (s ∷ ss)) = segment + 1

-- the events of a line, from this segment on
abbrev pub events_of_items : ℕ → List ℕ → ℕ → List Item → List DraftEvent
events_of_items line own segment [] = []
events_of_items line own segment (i ∷ is) =
    events_of_item line own segment i ++ events_of_items line own (next_segment segment i) is

-- the events of the sections, from this line on
abbrev pub events_of_sections : ℕ → List Section → List DraftEvent
events_of_sections line [] = []
events_of_sections line (s ∷ ss) =
    events_of_items line s.decl.name 0 s.items ++ events_of_sections (line + 1) ss

-- the events of a draft, section by section
unfoldable pub events_of : Tree → List DraftEvent
events_of draft = events_of_sections 0 draft.sections

-- the names of the instances
unfoldable pub instances_of : Tree → List (List ℕ)
instances_of draft = map (λ s. s.decl.name) draft.sections

-- the names in the header
unfoldable pub header_of : Tree → List (List ℕ)
header_of draft = map (λ d. d.name) draft.header

-- the name that stands as the address of an end
abbrev pub address_of : MessageEnd → List ℕ
address_of e = cond e.sends e.key.receiver e.key.sender

-- the other end of the same message
abbrev pub other_end : MessageEnd → MessageEnd
other_end e = record { sends = not e.sends; key = e.key }

-- what the events of a draft do
unfoldable pub acts_of : Tree → List Act
acts_of draft = map (λ e. e.act) (events_of draft)

-- it is an output
abbrev pub is_sent : Act → Bool
is_sent (OfMessage e) = e.sends
is_sent (Action text) = false

-- it is an input
abbrev pub is_taken : Act → Bool
is_taken (OfMessage e) = not e.sends
is_taken (Action text) = false

-- it is an action
abbrev pub is_action : Act → Bool
is_action (OfMessage e) = false
is_action (Action text) = true

-- names are compared byte by byte
abbrev pub same_name : List ℕ → List ℕ → Bool
same_name = pointwise nat_eq

-- message instance names are compared where both have one
abbrev pub same_number : Option (List ℕ) → Option (List ℕ) → Bool
same_number None None = true
same_number None (Some y) = false
same_number (Some x) None = false
same_number (Some x) (Some y) = same_name x y

-- whether two ends are equal
abbrev pub same_end : MessageEnd → MessageEnd → Bool
same_end a b =
    beq a.sends b.sends
    && (same_name a.key.sender b.key.sender
    && (same_name a.key.receiver b.key.receiver
    && (same_name a.key.name b.key.name && same_number a.key.number b.key.number)))

-- whether an act is this end
abbrev pub is_end : MessageEnd → Act → Bool
is_end e (OfMessage x) = same_end e x
is_end e (Action text) = false
