-- What holds of every text of a diagram.
use Rattle.std.specs.Prelude.{◌≡◌, ℕ, ◌-◌, List, [], ◌∷◌, length, get_or, take, drop, Option, Ok}
use Rattle.std.specs.List.{AllByRecursion}
use Rattle.msc_mermaid.specs.declared.declaring.Tails.{Tails}
use Rattle.msc_mermaid.specs.declared.statement.Arrow.{Arrow}
use Rattle.msc_mermaid.specs.declared.statement.Cross.{Cross}
use Rattle.msc_mermaid.specs.declared.statement.Diagram.{Diagram}
use Rattle.msc_mermaid.specs.declared.statement.Placed.{Placed}
use Rattle.msc_mermaid.specs.declared.statement.Span.{Span}
use Rattle.msc_mermaid.specs.declared.statement.Statement.{Statement}
use Rattle.msc_mermaid.specs.declared.statement.Statement.TheVariants.{Declares}
use Rattle.msc_place.specs.declared.position.Position.{Position}
use Rattle.msc_mermaid.specs.Cutting.{without_entities}
use Rattle.msc_mermaid.specs.Lines.{column_behind, further, lines_of, start_on, starts_of}
use Rattle.msc_mermaid.specs.Mermaid.{mermaid}
use Rattle.msc_mermaid.specs.Names.{declared}
use Rattle.msc_mermaid.specs.Saying.{arrow_of}
use Rattle.msc_mermaid.specs.White.{front}

-- the diagram of a text, where crosses are this
abbrev pub HasDiagram : Option Cross → List ℕ → Diagram → Type 0
HasDiagram cross text d = mermaid cross text ≡ Ok d

-- so many bytes of a statement, the first of which stands where as many are left of it
abbrev pub left_of : ℕ → ℕ → List ℕ → List ℕ
left_of tail count bytes = take count (drop (length bytes - tail) bytes)

-- The statement of an arrow begins with its sender, if not with white space. The receiver stands in it where so many
-- bytes are left, and so do those of which its label is made.
pub record SpellsArrow (bytes : List ℕ) (a : Arrow) (t : Tails) : Type 0 where
  pub sender : front 0 bytes ≡ 0 → take (length a.from) bytes ≡ a.from
  pub receiver : left_of t.name (length a.to) bytes ≡ a.to
  pub label : without_entities (left_of t.shown (length a.label) bytes) ≡ a.label

-- each arrow of a statement does
abbrev pub ArrowsSpellTheirTexts : Type 0
ArrowsSpellTheirTexts =
    (cross : Option Cross) (dying : List (List ℕ)) (here : Position) (bytes : List ℕ) (a : Arrow) (t : Tails) → arrow_of cross dying here bytes ≡ Ok (a, t) → SpellsArrow bytes a t

-- a line that is declared stands where so many bytes are left
abbrev pub SpellsName : List ℕ → Statement → Tails → Type 0
SpellsName bytes s t = (ident : List ℕ) (shown : Option (List ℕ)) → s ≡ Declares ident shown → left_of t.name (length ident) bytes ≡ ident

-- each does
abbrev pub LinesSpellTheirNames : Type 0
LinesSpellTheirNames =
    (here : Position) (bytes : List ℕ) (s : Statement) (t : Tails) → declared here bytes ≡ Ok (s, t) → SpellsName bytes s t

-- the bytes of these lines stand in the text at these places, and there are as many of both
unfoldable pub Stand : List ℕ → List ℕ → List (List ℕ) → Type 0
Stand text [] [] = Unit {0}
Stand text (s ∷ ss) (l ∷ ls) = (take (length l) (drop s text) ≡ l) × Stand text ss ls
Stand text starts lines = ⊥

-- each line of a text stands where it begins
abbrev pub LinesStandWhereTheyBegin : Type 0
LinesStandWhereTheyBegin = (text : List ℕ) → Stand text (starts_of text) (lines_of text)

-- the line of a number, from 1
abbrev pub line_on : List (List ℕ) → ℕ → List ℕ
line_on lines n = get_or lines (n - 1) []

-- the bytes of a statement begin at its place: behind as many bytes of its line as its column says
pub record BeginsAtItsPlace (text : List ℕ) (p : Placed) : Type 0 where
  pub at : ℕ
  pub column : p.column ≡ column_behind (take at (line_on (lines_of text) p.line))
  pub first : p.whole.first ≡ further (start_on (starts_of text) p.line) at

-- those of each statement of a text do
abbrev pub StatementsBeginAtTheirPlaces : Type 0
StatementsBeginAtTheirPlaces =
    (cross : Option Cross) (text : List ℕ) (d : Diagram) → HasDiagram cross text d → AllByRecursion (BeginsAtItsPlace text) d.statements

-- a comment begins in the text with its mark: two percent signs
abbrev pub BeginsWithItsMark : List ℕ → Span → Type 0
BeginsWithItsMark text c = take 2 (drop c.first text) ≡ 37 ∷ 37 ∷ []

-- each comment of a text does
abbrev pub CommentsBeginWithTheirMark : Type 0
CommentsBeginWithTheirMark =
    (cross : Option Cross) (text : List ℕ) (d : Diagram) → HasDiagram cross text d → AllByRecursion (BeginsWithItsMark text) d.comments
