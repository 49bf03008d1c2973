-- The arrows whose races marks accept, under an architecture.
use Rattle.std.specs.Prelude.{◌≡◌, ℕ, ◌<◌, Bool, true, false, ◌&&◌, ◌||◌, ◌==◌, List, [], Option, None, Some, drop, encode_utf8_all, find, get_or, length, map, nat_lt}
use Rattle.std.specs.Fmt.{decimal}
use Rattle.std.specs.List.{list_any, prefix_len}
use Rattle.std.specs.Str.{bytes_eq}
use Rattle.msc_chart.specs.Architectures.{link_word}
use Rattle.msc_chart.specs.declared.queue.LinkKind.{LinkKind}
use Rattle.msc_mermaid.specs.declared.statement.Placed.{Placed}
use Rattle.msc_mermaid.specs.declared.statement.Statement.{Statement}
use Rattle.msc_mermaid.specs.declared.statement.Statement.TheVariants.{Declares, Says, Begins, Closes}
use Rattle.msc_spoken.specs.Speaking.{spoken_text}
use Rattle.msc_arrow_marks.specs.declared.accepting.SpokenArrow.{SpokenArrow}
use Rattle.msc_arrow_marks.specs.declared.marks.ArrowMark.{ArrowMark}
use Rattle.msc_arrow_marks.specs.declared.other.OtherArrow.{OtherArrow}
use Rattle.msc_arrow_marks.specs.declared.other.OtherArrow.TheVariants.{Label, Number}
use Rattle.msc_arrow_marks.specs.declared.reading.MarkText.{MarkText}
use Rattle.msc_arrow_marks.specs.Marks.{bytes_at, is_same}

-- a label as people read it
abbrev pub spoken_bytes : List ℕ → List ℕ
spoken_bytes label = encode_utf8_all (spoken_text label)

-- a statement with this number and this label, as names of arrows are compared with it
abbrev pub spoken_of : List ℕ → ℕ → Statement → SpokenArrow
spoken_of label number (Declares ident shown) = record { is = false; digits = []; label = [] }
spoken_of label number (Says arrow) = record { is = true; digits = decimal number; label = spoken_bytes label }
spoken_of label number (Begins kind) = record { is = false; digits = []; label = [] }
spoken_of label number (Closes closer) = record { is = false; digits = []; label = [] }

-- the label is that of the text, whose entities people read
abbrev pub spoken_arrow : List ℕ → Placed → SpokenArrow
spoken_arrow text placed = spoken_of (bytes_at text placed.shown) placed.number placed.statement

-- a name of an arrow, with the label as people read it
abbrev pub spoken_other : OtherArrow → OtherArrow
spoken_other (Label label) = Label (spoken_bytes label)
spoken_other (Number digits) = Number digits

abbrev pub is_zero : ℕ → Bool
is_zero digit = digit == 48

-- the digits without the zeros in front
abbrev pub significant : List ℕ → List ℕ
significant digits = drop (prefix_len is_zero digits) digits

-- an arrow has this name
abbrev pub is_named : SpokenArrow → OtherArrow → Bool
is_named arrow (Label label) = bytes_eq label arrow.label
is_named arrow (Number digits) = bytes_eq (significant digits) arrow.digits

-- a mark with these names is for races with this arrow; one without names is for those with all
abbrev pub fits : List OtherArrow → SpokenArrow → Bool
fits names arrow = arrow.is && (length names == 0 || list_any (is_named arrow) names)

abbrev pub is_kind : LinkKind → LinkKind → Bool
is_kind usual kind = bytes_eq (link_word kind) (link_word usual)

-- a mark is for an architecture of this usual kind
abbrev pub is_for : LinkKind → MarkText → Bool
is_for usual said =
    length said.kinds == 0 || list_any (is_kind usual) said.kinds

-- a mark belongs to this statement, and is for the architecture
abbrev pub is_mark_of : LinkKind → ℕ → ArrowMark → Bool
is_mark_of usual i mark = is_same mark.arrow (Some i) && is_for usual mark.said

-- which of these a mark is for races with, if there is a mark
abbrev pub row_by : Option ArrowMark → List SpokenArrow → List Bool
row_by None arrows = []
row_by (Some mark) arrows = map (fits (map spoken_other mark.said.others)) arrows

abbrev pub row_at : List ArrowMark → List SpokenArrow → LinkKind → ℕ → List Bool
row_at marks arrows usual i = row_by (find (is_mark_of usual i) marks) arrows

-- these are the rows of all statements
pub record AreRows (marks : List ArrowMark) (arrows : List SpokenArrow) (usual : LinkKind) (rows : List (List Bool)) : Type 0 where
  pub size : length rows ≡ length arrows
  pub each : (i : ℕ) → i < length arrows → get_or rows i [] ≡ row_at marks arrows usual i

-- the marks of a diagram of this text and with these statements, under an architecture of a usual kind
pub record Acceptance : Type 0 where
  pub text : List ℕ
  pub marks : List ArrowMark
  pub statements : List Placed
  pub usual : LinkKind

abbrev pub acceptance : List ℕ → List ArrowMark → List Placed → LinkKind → Acceptance
acceptance text marks statements usual = record { text = text; marks = marks; statements = statements; usual = usual }

-- the mark of statement i accepts races with statement j
abbrev pub accepts_from : Acceptance → ℕ → ℕ → Bool
accepts_from a i j =
    nat_lt i (length a.statements) && get_or (row_at a.marks (map (spoken_arrow a.text) a.statements) a.usual i) j false

-- a race of both is accepted: by the mark of either
abbrev pub accepts : Acceptance → ℕ → ℕ → Bool
accepts a i j = accepts_from a i j || accepts_from a j i
