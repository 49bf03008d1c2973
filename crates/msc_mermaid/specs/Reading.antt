-- What was read of a diagram: its statements and comments, one by one.
use Rattle.std.specs.Prelude.{◌≡◌, ℕ, ◌+◌, ◌-◌, ◌==◌, Bool, true, false, cond, List, [], ◌∷◌, ◌++◌, length, replicate, Option, None, Some, Result, Ok, Err}
use Rattle.msc_mermaid.specs.declared.fault.ImportFault.{ImportFault}
use Rattle.msc_place.specs.declared.position.Position.{Position}
use Rattle.msc_mermaid.specs.declared.reading.StatementStart.{StatementStart}
use Rattle.msc_mermaid.specs.declared.saying.Said.{Said}
use Rattle.msc_mermaid.specs.declared.saying.Said.TheVariants as said
use Rattle.msc_mermaid.specs.declared.statement.Cross.{Cross}
use Rattle.msc_mermaid.specs.declared.statement.Diagram.{Diagram}
use Rattle.msc_mermaid.specs.declared.statement.Placed.{Placed}
use Rattle.msc_mermaid.specs.declared.statement.Span.{Span}
use Rattle.msc_mermaid.specs.declared.statement.Statement.{Statement}
use Rattle.msc_mermaid.specs.declared.statement.Statement.TheVariants.{Declares, Says, Begins, Closes}
use Rattle.msc_mermaid.specs.Gives.{◌>>=◌, Fails}
use Rattle.msc_mermaid.specs.Lines.{further}
use Rattle.msc_mermaid.specs.Outlines.{Outline, blank, laid, finished, span_of}
use Rattle.msc_mermaid.specs.Saying.{said_at}

-- an arrow
abbrev pub is_arrow : Statement → Bool
is_arrow (Declares ident shown) = false
is_arrow (Says arrow) = true
is_arrow (Begins kind) = false
is_arrow (Closes closer) = false

-- what was read so far: the lines that end with the next arrow, how many arrows, the lines and the
-- open blocks, the statements, and the comments
pub record Read : Type 0 where
  pub dying : List (List ℕ)
  pub arrows : ℕ
  pub outline : Outline
  pub said : List Placed
  pub comments : List Span

-- nothing was read
abbrev pub untold : Read
untold = record { dying = []; arrows = 0; outline = blank; said = []; comments = [] }

-- one comment more, which has these bytes
abbrev pub with_comment : Span → Read → Read
with_comment whole r = record {
  dying = r.dying;
  arrows = r.arrows;
  outline = r.outline;
  said = r.said;
  comments = r.comments ++ whole ∷ [];
}

-- how many bytes the label of an arrow has, or the shown name of a line
abbrev pub shown_length : Statement → ℕ
shown_length (Declares ident None) = 0
shown_length (Declares ident (Some text)) = length text
shown_length (Says arrow) = length arrow.label
shown_length (Begins kind) = 0
shown_length (Closes closer) = 0

-- where these stand, if the statement stands here, and so many bytes of it are left from them on
abbrev pub shown_span : Span → ℕ → Statement → Span
shown_span whole tail s = span_of (whole.past - tail) (shown_length s)

-- one statement more, which begins here and has these bytes, behind which the lines and the open
-- blocks are these
abbrev pub listed : Read → Position → Span → ℕ → Statement → Outline → Read
listed r here whole tail s outline = record {
  dying = cond (is_arrow s) [] r.dying;
  arrows = cond (is_arrow s) (r.arrows + 1) r.arrows;
  outline = outline;
  said = r.said ++ record { line = here.line; column = here.column; number = r.arrows + 1; statement = s; whole = whole; shown = shown_span whole tail s } ∷ [];
  comments = r.comments;
}

-- what a statement says that begins here and has these bytes, noted
unfoldable pub noted : Read → Position → Span → Said → Result Read ImportFault
noted r here whole said.Nothing = Ok r
noted r here whole (said.Dies name) =
    Ok (record { dying = r.dying ++ name ∷ []; arrows = r.arrows; outline = r.outline; said = r.said; comments = r.comments })
noted r here whole (said.Statement s tails) = do
  outline ← laid here whole.first (whole.past - tails.name) s r.outline
  Ok (listed r here whole tails.shown s outline)

-- one statement, which begins here
unfoldable pub read_one : Option Cross → StatementStart → List ℕ → Read → Result Read ImportFault
read_one cross spot bytes r = do
  s ← said_at cross r.dying spot.here bytes
  noted r spot.here (span_of spot.first (length bytes)) s

-- the diagram of what was read, where no block is open
unfoldable pub told : Read → Result Diagram ImportFault
told r = do
  found ← finished r.outline
  Ok (record { lines = found.0; names = found.1; statements = r.said; comments = r.comments })

-- a statement with a configuration that has no end yet: where it begins, and its bytes so far
pub record Waiting : Type 0 where
  pub spot : StatementStart
  pub bytes : List ℕ

-- none was met
abbrev pub none_waiting : Waiting
none_waiting = record { spot = record { here = record { line = 1; column = 1 }; first = 0 }; bytes = [] }

-- how many bytes of the text stand between those so far and a line that begins here: one at least
abbrev pub gap : ℕ → Waiting → ℕ
gap start o =
    cond (start - further o.spot.first (length o.bytes) == 0) 1 (start - further o.spot.first (length o.bytes))

-- The same with these bytes of a further line, behind a comma for each byte of the text between:
-- what a line says of a configuration ends with it, and what follows stands as far from the
-- beginning as in the text.
abbrev pub lengthened : ℕ → List ℕ → Waiting → Waiting
lengthened start more o = record { spot = o.spot; bytes = o.bytes ++ replicate (gap start o) 44 ++ more }

-- What a step leaves is what the definition says, unless memory ran out.
abbrev pub Leaves : {A : Type 0} → Result (Unit {0}) ImportFault → A → Result A ImportFault → Type 0
Leaves (Ok u) now said = said ≡ Ok now
Leaves (Err e) now said = Fails e said
