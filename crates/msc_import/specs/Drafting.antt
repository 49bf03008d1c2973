-- The draft of a path: its lines, each with its events.
use Rattle.std.specs.Prelude.{ℕ, ◌+◌, ◌-◌, Bool, cond, not, ◌&&◌, nat_le, List, [], ◌∷◌, ◌++◌, length, take, drop, slice_get, map, codes, Option, None, Some, is_none, unwrap_or, Result}
use Rattle.std.specs.Option.{option_or}
use Rattle.std.specs.Str.{bytes_eq}
use Rattle.std.specs.List.{list_all}
use Rattle.msc_lexer.specs.declared.TheConstants.{NAME_LIMIT, TEXT_LIMIT}
use Rattle.msc_lexer.specs.Bytes.{is_run_byte}
use Rattle.msc_lexer.specs.Words.{word_of}
use Rattle.msc_parser.specs.declared.tree.Decl.{Decl}
use Rattle.msc_parser.specs.declared.tree.Item.{Item}
use Rattle.msc_parser.specs.declared.tree.Item.TheVariants.{Single, Coregion}
use Rattle.msc_parser.specs.declared.tree.Section.{Section}
use Rattle.msc_parser.specs.declared.tree.Signal.{Signal}
use Rattle.msc_parser.specs.declared.tree.Statement.{Statement as Drawn}
use Rattle.msc_parser.specs.declared.tree.Statement.TheVariants.{Message as Signalled, Action as Acts}
use Rattle.msc_parser.specs.declared.tree.Direction.{Direction}
use Rattle.msc_parser.specs.declared.tree.Direction.TheVariants as directions
use Rattle.msc_parser.specs.Canonical.{canonical}
use Rattle.msc_parser.specs.Drafts.{statements_of}
use Rattle.msc_parser.specs.Grammar.{Tree}
use Rattle.msc_parser.specs.Parsing.{HasDraft}
use Rattle.msc_scenarios.specs.declared.steps.Message.{Message}
use Rattle.msc_mermaid.specs.declared.fault.ImportFault.{ImportFault}
use Rattle.msc_mermaid.specs.declared.fault.ImportFault.TheVariants.{TooManyArrows}
use Rattle.msc_mermaid.specs.declared.TheConstants.{DEPTH_LIMIT}
use Rattle.msc_mermaid.specs.declared.statement.Diagram.{Diagram}
use Rattle.msc_import.specs.declared.plan.Manner.{Manner}
use Rattle.msc_import.specs.declared.plan.Side.{Side}
use Rattle.msc_import.specs.declared.plan.Side.TheVariants as sides
use Rattle.msc_mermaid.specs.declared.statement.Placed.{Placed}
use Rattle.msc_mermaid.specs.declared.statement.Statement.{Statement}
use Rattle.msc_mermaid.specs.declared.statement.Statement.TheVariants.{Declares, Says, Begins, Closes}
use Rattle.msc_scenarios.specs.Steps.{Walk, at_rest, unended, walk}
use Rattle.msc_mermaid.specs.Gives.{◌>>=◌, unless}
use Rattle.msc_import.specs.Plans.{Event, Plan, plans_of}
use Rattle.msc_scenarios.specs.Naming.{kind_of, made, names_behind}
use Rattle.msc_mermaid.specs.Patterns.{is_empty}

-- the bytes are a name of charts
abbrev pub is_chart_name : List ℕ → Bool
is_chart_name name =
    not (is_empty name) && list_all is_run_byte name && is_none (word_of name) && nat_le (length name) NAME_LIMIT

-- the bytes where they are a name of charts, and else one letter
unfoldable pub fitted : List ℕ → List ℕ
fitted name = cond (is_chart_name name) name (codes "m")

-- a message's name and its number
abbrev pub ident_text : Message → List ℕ
ident_text m = m.name ++ codes ", " ++ m.number

-- the name of a line
abbrev pub line_name : List (List ℕ) → ℕ → List ℕ
line_name names line = unwrap_or (slice_get names line) []

-- an output or an input of a message
abbrev pub signal : Direction → Message → List ℕ → Signal
signal direction m address = record {
  direction = direction;
  name = fitted m.name;
  number = Some (fitted m.number);
  parameters = [];
  address = fitted address;
}

-- the event of an end
abbrev pub drawn_side : List (List ℕ) → Message → Side → Drawn
drawn_side names m sides.Out = Signalled (signal directions.Output m (line_name names m.to))
drawn_side names m sides.In = Signalled (signal directions.Input m (line_name names m.from))
drawn_side names m sides.OutBack = Signalled (signal directions.Output m (line_name names m.from))
drawn_side names m sides.InBack = Signalled (signal directions.Input m (line_name names m.to))
drawn_side names m sides.Own = Acts (ident_text m)
drawn_side names m sides.Lost =
    Acts (codes "lost " ++ ident_text m ++ codes " to " ++ line_name names m.to)

unfoldable pub drawn_event : List (List ℕ) → Event → Drawn
drawn_event names e = drawn_side names e.message e.side

-- a segment: one event, or a coregion
unfoldable pub drawn_item : List (List ℕ) → List Event → Item
drawn_item names (e ∷ []) = Single (drawn_event names e)
drawn_item names es = Coregion (map (drawn_event names) es)

-- the events between two places
abbrev pub between : List Event → ℕ → ℕ → List Event
between es start stop =
    cond (nat_le start stop && nat_le stop (length es)) (take (stop - start) (drop start es)) []

-- the segments of events, of which the first begins here
unfoldable pub drawn_items : List (List ℕ) → List Event → ℕ → List ℕ → List Item
drawn_items names es start [] = []
drawn_items names es start (stop ∷ stops) =
    drawn_item names (between es start stop) ∷ drawn_items names es stop stops

-- the shown name that a statement gives a line
abbrev pub shown_by : List ℕ → Statement → Option (List ℕ)
shown_by ident (Declares other shown) = cond (bytes_eq other ident) shown None
shown_by ident (Says arrow) = None
shown_by ident (Begins kind) = None
shown_by ident (Closes closer) = None

-- the first shown name of a line
unfoldable pub shown_of : List ℕ → List Placed → Option (List ℕ)
shown_of ident [] = None
shown_of ident (p ∷ ps) = option_or (shown_by ident p.statement) (shown_of ident ps)

-- what a line is of, by its shown name
abbrev pub kind_by : List ℕ → Option (List ℕ) → List (List ℕ)
kind_by name None = []
kind_by name (Some shown) = map fitted (kind_of name shown)

-- a line's name and what it is of
unfoldable pub decl_of : List ℕ → List ℕ → List Placed → Decl
decl_of name ident ps = record { name = fitted name; kind = kind_by name (shown_of ident ps) }

-- a line of the draft
abbrev pub section_of : List (List ℕ) → ℕ → List ℕ → List Placed → Plan → Section
section_of names line ident ps p = record {
  decl = decl_of (line_name names line) ident ps;
  items = drawn_items names p.events 0 p.ends;
}

-- the lines of the draft behind these, of which the first has this number
unfoldable pub sections_on : List (List ℕ) → List (List ℕ) → List Placed → ℕ → List Plan → List Section → List Section
sections_on lines names ps line [] done = done
sections_on lines names ps line (p ∷ plans) done =
    sections_on lines names ps (line + 1) plans (done ++ section_of names line (line_name lines line) ps p ∷ [])

-- the name of a chart
abbrev pub chart_name : List ℕ → List ℕ
chart_name name = fitted (made name (codes "diagram"))

-- the draft of these lines
abbrev pub tree_of : List ℕ → List Section → Tree
tree_of name sections = record { name = chart_name name; header = []; sections = sections }

-- the fault of a draft that is too long as a whole: no arrow of it is one too many
abbrev pub too_long : ImportFault
too_long = TooManyArrows (record { line = 0; column = 0 })

-- the draft, where it has no more events than a text has bytes
abbrev pub few_events : List ℕ → List Section → Result Tree ImportFault
few_events name sections =
    unless (nat_le (length (statements_of sections)) TEXT_LIMIT) too_long (tree_of name sections)

-- A draft whose text is no longer than a text may be. The limits of arrows, lines and names leave
-- none that is longer; it is looked at all the same, so that what is drawn is read again.
abbrev pub short_enough : Tree → Result Tree ImportFault
short_enough d = unless (nat_le (length (canonical d)) TEXT_LIMIT) too_long d

-- the draft of these lines
abbrev pub drawn_as : List ℕ → List Section → Result Tree ImportFault
drawn_as name sections = few_events name sections >>= short_enough

-- the text of a draft is read again, as this draft
abbrev pub IsReadAgain : Tree → Type 0
IsReadAgain d = HasDraft (canonical d) d

-- the draft of a diagram with these lines and statements, of which each line has its plan
abbrev pub drawn_plans : List ℕ → List (List ℕ) → List Placed → List Plan → Result Tree ImportFault
drawn_plans name lines ps plans = drawn_as name (sections_on lines (names_behind [] lines) ps 0 plans [])

-- the draft of a walk through these statements
unfoldable pub drawn_walk : Manner → List ℕ → List Placed → Walk → Result Tree ImportFault
drawn_walk manner name ps w = do
  plans ← plans_of manner w.steps (length w.lines)
  whole ← unended w w.ending
  drawn_plans name w.lines ps plans

-- The draft of a diagram's scenario with these choices: a walk through all of its statements, with
-- those that are not given the main ones; or its first fault.
unfoldable pub drawn : Manner → List ℕ → Diagram → List ℕ → Result Tree ImportFault
drawn manner name d given =
    drawn_walk manner name d.statements (walk (DEPTH_LIMIT + 1) d.statements [] (at_rest d.lines given))
