-- What findings show of the lines and arrows of a diagram, by the diagram and its text.
use Rattle.std.specs.Prelude.{◌≡◌, ℕ, Bool, false, not, ◌||◌, List, [], Option, None, Some, get_or, length, map, slice_get}
use Rattle.std.specs.List.{range_with_len}
use Rattle.std.specs.Option.{option_copied}
use Rattle.std.specs.Str.{bytes_eq}
use Rattle.std.specs.String.{string_bytes}
use Rattle.msc_mermaid.specs.declared.statement.Diagram.{Diagram}
use Rattle.msc_mermaid.specs.declared.statement.Placed.{Placed}
use Rattle.msc_mermaid.specs.declared.statement.Span.{Span}
use Rattle.msc_mermaid.specs.declared.statement.Statement.{Statement}
use Rattle.msc_mermaid.specs.declared.statement.Statement.TheVariants.{Begins, Closes, Declares, Says}
use Rattle.msc_scenarios.specs.Steps.{is_loss, line_at}
use Rattle.msc_shown_chart.specs.Words.{file_said, plain_words, position_said, Words}
use Rattle.msc_speech.specs.Messages.{label_said}
use Rattle.msc_speech.specs.Names.{line_names}
use Rattle.msc_speech.specs.declared.names.LineName.{LineName}
use Rattle.msc_shown_diagram.specs.Loops.{loops_of}
use Rattle.msc_shown_diagram.specs.Spans.{bytes_at}
use Rattle.msc_shown_diagram.specs.declared.words.ArrowWords.{ArrowWords}
use Rattle.msc_shown_diagram.specs.declared.words.DiagramWords.{DiagramWords}

-- what is shown of an arrow: what its label is called and where it stands, the number of the line that
-- it leads to, and whether an action that stands for it is a lost message
pub record PlainArrow : Type 0 where
  pub words : Words
  pub to : ℕ
  pub loses : Bool

-- that of the code
abbrev pub plain_arrow : ArrowWords → PlainArrow
plain_arrow a = record { words = plain_words a.event; to = a.to; loses = a.loses }

-- an arrow to the line that it comes from
abbrev pub is_step : Statement → Bool
is_step (Says arrow) = bytes_eq arrow.from arrow.to
is_step (Declares ident shown) = false
is_step (Begins kind) = false
is_step (Closes closer) = false

-- an action that stands for an arrow is a lost message: the arrow is lost, or leads to another line
abbrev pub loses : Statement → Bool
loses (Says arrow) = is_loss arrow.fate || not (bytes_eq arrow.from arrow.to)
loses (Declares ident shown) = false
loses (Begins kind) = false
loses (Closes closer) = false

-- the number of the line that an arrow leads to
abbrev pub to_of : List (List ℕ) → Statement → ℕ
to_of lines (Says arrow) = line_at lines arrow.to
to_of lines (Declares ident shown) = 0
to_of lines (Begins kind) = 0
to_of lines (Closes closer) = 0

-- what the label of a statement is called, and where the statement stands
abbrev pub event_words : List ℕ → List ℕ → Placed → Words
event_words file text p = record {
  message = label_said (bytes_at text p.shown) (is_step p.statement) p.line;
  place = position_said file p.line p.column;
  first = p.whole.first;
  past = p.whole.past;
  line = p.line;
}

-- what is shown of a statement of a diagram with these lines
abbrev pub arrow_words : List ℕ → List ℕ → List (List ℕ) → Placed → PlainArrow
arrow_words file text lines p = record {
  words = event_words file text p;
  to = to_of lines p.statement;
  loses = loses p.statement;
}

-- a line, by its identifier and its shown name
abbrev pub plain_line : LineName → List ℕ × Option (List ℕ)
plain_line line = (line.ident.now, option_copied line.shown)

-- the bytes of a shown name that has a place
abbrev pub name_in : List ℕ → Option (Option Span) → Option (List ℕ)
name_in text None = None
name_in text (Some None) = None
name_in text (Some (Some span)) = Some (bytes_at text span)

-- the shown name of a line
abbrev pub shown_name : List ℕ → List (Option Span) → ℕ → Option (List ℕ)
shown_name text shown line = name_in text (slice_get shown line)

-- line i, by its identifier and its shown name
abbrev pub line_pair : List ℕ → List (Option Span) → List (List ℕ) → ℕ → List ℕ × Option (List ℕ)
line_pair text shown idents i = (get_or idents i [], shown_name text shown i)

abbrev pub line_pairs : List ℕ → List (Option Span) → List (List ℕ) → List (List ℕ × Option (List ℕ))
line_pairs text shown idents = map (line_pair text shown idents) (range_with_len 0 (length idents))

-- these are the names of the lines
pub record AreNamesSaid (text : List ℕ) (shown : List (Option Span)) (idents names : List (List ℕ)) : Type 0 where
  pub lines : List LineName
  pub are : map plain_line lines ≡ line_pairs text shown idents
  pub said : names ≡ line_names lines

-- These are the words of a diagram in this text, which stands in the file of this name; its lines have
-- their first shown names at these places.
pub record AreWordsOf (d : Diagram) (shown : List (Option Span)) (file text : List ℕ) (w : DiagramWords) : Type 0 where
  pub file_is : string_bytes w.file ≡ file_said file
  pub names : AreNamesSaid text shown d.lines (map string_bytes w.names.items)
  pub arrows : map plain_arrow w.arrows.items ≡ map (arrow_words (file_said file) text d.lines) d.statements
  pub loops : w.loops.items ≡ loops_of d.statements
