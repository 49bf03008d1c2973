-- The lines of a diagram and its open blocks, statement by statement.
use Rattle.std.specs.Prelude.{ℕ, ◌-◌, Bool, true, false, cond, nat_lt, List, [], ◌∷◌, ◌++◌, length, take, slice_get, Option, None, Some, Result, Ok, Err}
use Rattle.std.specs.List.{list_any}
use Rattle.std.specs.Str.{bytes_eq}
use Rattle.msc_mermaid.specs.declared.fault.ImportFault.{ImportFault}
use Rattle.msc_mermaid.specs.declared.fault.ImportFault.TheVariants.{Outside, TooDeep, TooManyLines, Unended}
use Rattle.msc_mermaid.specs.declared.outline.Opened.{Opened}
use Rattle.msc_mermaid.specs.declared.row.Closer.{Closer}
use Rattle.msc_mermaid.specs.declared.row.Closer.TheVariants as closers
use Rattle.msc_mermaid.specs.declared.row.Kind.{Kind}
use Rattle.msc_mermaid.specs.declared.row.Kind.TheVariants as kinds
use Rattle.msc_mermaid.specs.declared.statement.Span.{Span}
use Rattle.msc_mermaid.specs.declared.statement.Statement.{Statement}
use Rattle.msc_mermaid.specs.declared.statement.Statement.TheVariants.{Declares, Says, Begins, Closes}
use Rattle.msc_mermaid.specs.declared.TheConstants.{DEPTH_LIMIT, LINE_LIMIT}
use Rattle.msc_place.specs.declared.position.Position.{Position}
use Rattle.msc_mermaid.specs.Gives.{◌>>=◌, unless}
use Rattle.msc_mermaid.specs.Lines.{further}

-- the lines in the order in which they are declared or used first, where in the text each of them is named first, and
-- the blocks that are open, the innermost one last
pub record Outline : Type 0 where
  pub lines : List (List ℕ)
  pub names : List Span
  pub opened : List Opened

-- nothing was said
abbrev pub blank : Outline
blank = record { lines = []; names = []; opened = [] }

-- the line is there
abbrev pub is_known : List (List ℕ) → List ℕ → Bool
is_known lines ident = list_any (λ l. bytes_eq l ident) lines

-- the lines with this one, which a statement here names
unfoldable pub met : Position → List ℕ → List (List ℕ) → Result (List (List ℕ)) ImportFault
met here ident lines =
    cond (is_known lines ident) (Ok lines) (unless (nat_lt (length lines) LINE_LIMIT) (TooManyLines here) (lines ++ ident ∷ []))

-- so many bytes of a text, from one on
abbrev pub span_of : ℕ → ℕ → Span
span_of first count = record { first = first; past = further first count }

-- where each line is named first, with this one, which a statement names from this byte on
abbrev pub named : Outline → List ℕ → ℕ → List Span
named o ident first =
    cond (is_known o.lines ident) o.names (o.names ++ span_of first (length ident) ∷ [])

-- the outline with these lines, the last of which may be new
abbrev pub with_lines : Outline → List ℕ → ℕ → List (List ℕ) → Outline
with_lines o ident first lines = record { lines = lines; names = named o ident first; opened = o.opened }

-- the outline with this line, which a statement names from this byte on
unfoldable pub meets : Position → List ℕ → ℕ → Outline → Result Outline ImportFault
meets here ident first o = do
  lines ← met here ident o.lines
  Ok (with_lines o ident first lines)

-- the word goes on with a block of this kind, or ends it
abbrev pub suits : Closer → Kind → Bool
suits closers.Else kinds.Alt = true
suits closers.And kinds.Par = true
suits closers.Option kinds.Critical = true
suits closers.End kind = true
suits closer kind = false

-- it does so with the innermost block
abbrev pub suits_last : Closer → Option Opened → Bool
suits_last closer None = false
suits_last closer (Some b) = suits closer b.kind

-- the innermost block
abbrev pub innermost : List Opened → Option Opened
innermost opened = slice_get opened (length opened - 1)

-- the blocks that are open behind such a word
abbrev pub left_open : Closer → List Opened → List Opened
left_open closers.End opened = take (length opened - 1) opened
left_open closer opened = opened

-- The lines of a statement that begins here, with this byte of the text, and its blocks. It declares the line, or its
-- arrow goes to the line, that it names from this byte on; its arrow comes from the line that it begins with.
unfoldable pub laid : Position → ℕ → ℕ → Statement → Outline → Result Outline ImportFault
laid here first name (Declares ident shown) o = meets here ident name o
laid here first name (Says arrow) o = do
  sent ← meets here arrow.from first o
  meets here arrow.to name sent
laid here first name (Begins kind) o =
    unless (nat_lt (length o.opened) DEPTH_LIMIT) (TooDeep here) (record { lines = o.lines; names = o.names; opened = o.opened ++ record { kind = kind; start = here } ∷ [] })
laid here first name (Closes closer) o =
    unless (suits_last closer (innermost o.opened)) (Outside here closer) (record { lines = o.lines; names = o.names; opened = left_open closer o.opened })

-- these, where no block is open
abbrev pub closed_by : {A : Type 0} → A → Option Opened → Result A ImportFault
closed_by lines None = Ok lines
closed_by lines (Some b) = Err (Unended b.start)

-- the lines of an outline that is whole, and where each is named first
unfoldable pub finished : Outline → Result (List (List ℕ) × List Span) ImportFault
finished o = closed_by (o.lines, o.names) (innermost o.opened)
