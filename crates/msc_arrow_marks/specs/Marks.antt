-- The marks of a diagram, and the faulty ones.
use Rattle.std.specs.Prelude.{ℕ, ◌-◌, Bool, false, cond, ◌&&◌, List, [], ◌∷◌, ◌++◌, Option, None, Some, drop, filter, fold, length, map, nat_eq, nat_le, slice_get, slice_range}
use Rattle.msc_mermaid.specs.White.{trimmed}
use Rattle.msc_mermaid.specs.declared.statement.Diagram.{Diagram}
use Rattle.msc_mermaid.specs.declared.statement.Placed.{Placed}
use Rattle.msc_mermaid.specs.declared.statement.Span.{Span}
use Rattle.msc_mermaid.specs.declared.statement.Statement.{Statement}
use Rattle.msc_mermaid.specs.declared.statement.Statement.TheVariants.{Declares, Says, Begins, Closes}
use Rattle.msc_arrow_marks.specs.declared.fault.FaultyMark.{FaultyMark}
use Rattle.msc_arrow_marks.specs.declared.fault.Slip.{Slip}
use Rattle.msc_arrow_marks.specs.declared.fault.Slip.TheVariants as slip
use Rattle.msc_arrow_marks.specs.declared.finding.Finding.{Finding}
use Rattle.msc_arrow_marks.specs.declared.marks.ArrowMark.{ArrowMark}
use Rattle.msc_arrow_marks.specs.declared.reading.MarkText.{MarkText}
use Rattle.msc_arrow_marks.specs.declared.reading.Reading.{Reading}
use Rattle.msc_arrow_marks.specs.declared.reading.Reading.TheVariants.{Other, Faulty, Says as ReadsMark}
use Rattle.msc_arrow_marks.specs.Below.{arrow_below}
use Rattle.msc_arrow_marks.specs.Labels.{has_mark}
use Rattle.msc_arrow_marks.specs.Readings.{reading_of}

-- the bytes of a text in a span, or none if the text is shorter
abbrev pub bytes_at : List ℕ → Span → List ℕ
bytes_at text span =
    cond (nat_le span.first span.past && nat_le span.past (length text)) (slice_range text span.first span.past) []

-- what a comment says behind its two percent signs, without white space around it
abbrev pub comment_text : List ℕ → Span → List ℕ
comment_text text comment = trimmed (drop 2 (bytes_at text comment))

-- marks, and faulty ones
pub record Found : Type 0 where
  pub marks : List ArrowMark
  pub faults : List FaultyMark

abbrev pub with_mark : Found → ArrowMark → Found
with_mark found mark = record { marks = found.marks ++ mark ∷ []; faults = found.faults }

abbrev pub fault_at : Slip → Span → FaultyMark
fault_at slip span = record { slip = slip; span = span }

abbrev pub with_fault : Found → Slip → Span → Found
with_fault found slip span =
    record { marks = found.marks; faults = found.faults ++ fault_at slip span ∷ [] }

-- two numbers of arrows are there and the same
abbrev pub is_same : Option ℕ → Option ℕ → Bool
is_same None other = false
is_same (Some number) None = false
is_same (Some number) (Some other) = nat_eq number other

-- the last mark belongs to this arrow
abbrev pub is_of : Option ℕ → Option ArrowMark → Bool
is_of arrow None = false
is_of arrow (Some mark) = is_same mark.arrow arrow

abbrev pub last_is_of : List ArrowMark → Option ℕ → Bool
last_is_of marks arrow = is_of arrow (slice_get marks (length marks - 1))

-- behind a comment that is a mark
abbrev pub after_mark : Found → Option ℕ → Span → MarkText → Found
after_mark found arrow comment said = cond (last_is_of found.marks arrow)
    (with_fault found slip.Second comment)
    (with_mark found (record { arrow = arrow; comment = comment; said = said }))

-- behind a comment that reads so
abbrev pub after_reading : List Placed → Found → Span → Reading → Found
after_reading statements found comment Other = found
after_reading statements found comment (Faulty slip) = with_fault found slip comment
after_reading statements found comment (ReadsMark said) =
    after_mark found (arrow_below statements comment.first) comment said

abbrev pub after_comment : List ℕ → List Placed → Found → Span → Found
after_comment text statements found comment =
    after_reading statements found comment (reading_of (comment_text text comment))

abbrev pub nothing_found : Found
nothing_found = record { marks = []; faults = [] }

-- what the comments of a diagram have, in the order of the text
abbrev pub found_in : List ℕ → Diagram → Found
found_in text diagram = fold (after_comment text diagram.statements) nothing_found diagram.comments

-- the label of an arrow has a mark in it
abbrev pub is_label_marked : Statement → Bool
is_label_marked (Declares ident shown) = false
is_label_marked (Says arrow) = has_mark arrow.label
is_label_marked (Begins kind) = false
is_label_marked (Closes closer) = false

-- the faulty marks that are parts of labels
abbrev pub label_faults : List Placed → List FaultyMark
label_faults statements = map (λ placed. fault_at slip.Label placed.whole)
    (filter (λ placed. is_label_marked placed.statement) statements)

-- what the code has found so far
abbrev pub found : Finding → Found
found finding = record { marks = finding.marks.items; faults = finding.faults.items }
