-- Marks of a diagram as comments of a chart. Their form is that of marks of charts.
use Rattle.std.specs.Prelude.{◌≡◌, ℕ, Bool, false, ◌&&◌, cond, List, [], ◌∷◌, ◌++◌, Option, None, Some, codes, find, length, map, nat_eq, option_and_then, option_map, slice_get}
use Rattle.std.specs.List.{flat_map, fold, list_any, position}
use Rattle.std.specs.Option.{option_map_or}
use Rattle.std.specs.Str.{bytes_eq}
use Rattle.msc_arrow_marks.specs.Accepting.{is_named, spoken_arrow, spoken_other}
use Rattle.msc_arrow_marks.specs.Marks.{is_same}
use Rattle.msc_arrow_marks.specs.declared.accepting.SpokenArrow.{SpokenArrow}
use Rattle.msc_arrow_marks.specs.declared.marks.ArrowMark.{ArrowMark}
use Rattle.msc_arrow_marks.specs.declared.other.OtherArrow.{OtherArrow}
use Rattle.msc_arrow_marks.specs.declared.other.OtherArrow.TheVariants.{Label, Number}
use Rattle.msc_arrow_marks.specs.declared.reading.MarkText.{MarkText}
use Rattle.msc_chart.specs.Architectures.{link_word}
use Rattle.msc_chart.specs.declared.queue.LinkKind.{LinkKind}
use Rattle.msc_import.specs.declared.spanning.EventSpans.{EventSpans}
use Rattle.msc_mermaid.specs.declared.statement.Placed.{Placed}
use Rattle.msc_scenarios.specs.Naming.{made}
use Rattle.msc_import_marks.specs.Met.{is_whole}
use Rattle.msc_import_marks.specs.declared.met.MetArrow.{MetArrow}

-- the arrow of a statement has this name, of which the label is as people read it
abbrev pub is_named_at : List SpokenArrow → OtherArrow → ℕ → Bool
is_named_at arrows name statement = option_map_or (λ arrow. is_named arrow name) (slice_get arrows statement) false

-- an ident behind others, unless it is there
abbrev pub added : List (List ℕ) → List ℕ → List (List ℕ)
added idents ident = cond (list_any (bytes_eq ident) idents) idents (idents ++ ident ∷ [])

-- the ident of an arrow, if it has this name, of which the label is as people read it
abbrev pub named_at : List SpokenArrow → OtherArrow → MetArrow → List (List ℕ)
named_at arrows name m = cond (is_named_at arrows name m.statement) (m.ident ∷ []) []

-- the idents of the arrows that have this name, of which the label is as people read it
abbrev pub named : List SpokenArrow → List MetArrow → OtherArrow → List (List ℕ)
named arrows met name = flat_map (named_at arrows name) met

-- the name that is made of the name of an arrow
abbrev pub made_of : OtherArrow → List ℕ
made_of (Label label) = made label (codes "m")
made_of (Number digits) = codes "m"

abbrev pub or_made : OtherArrow → List (List ℕ) → List (List ℕ)
or_made name idents = cond (nat_eq (length idents) 0) (made_of name ∷ []) idents

-- the idents of the arrows that have this name, or the name that is made of it
abbrev pub named_or_made : List SpokenArrow → List MetArrow → OtherArrow → List (List ℕ)
named_or_made arrows met name = or_made name (named arrows met (spoken_other name))

-- behind the idents of a name
abbrev pub idents_in : List SpokenArrow → List MetArrow → List (List ℕ) → OtherArrow → List (List ℕ)
idents_in arrows met idents name = fold added idents (named_or_made arrows met name)

-- the idents of the arrows that have these names, each once
abbrev pub idents_of : List SpokenArrow → List MetArrow → List OtherArrow → List (List ℕ)
idents_of arrows met names = fold (idents_in arrows met) [] names

-- ` in ARCH, ARCH..`, if there are some
abbrev pub more_kinds : List LinkKind → List ℕ
more_kinds kinds = flat_map (λ kind. codes ", " ++ link_word kind) kinds

abbrev pub kinds_text : List LinkKind → List ℕ
kinds_text [] = []
kinds_text (kind ∷ kinds) = codes " in " ++ (link_word kind ++ more_kinds kinds)

-- ` with ID; ID..`, if there are some
abbrev pub more_others : List (List ℕ) → List ℕ
more_others idents = flat_map (λ ident. codes "; " ++ ident) idents

abbrev pub others_text : List (List ℕ) → List ℕ
others_text [] = []
others_text (ident ∷ idents) = codes " with " ++ (ident ++ more_others idents)

-- the comment of a chart that says what a mark says
abbrev pub comment_text : List SpokenArrow → List MetArrow → MarkText → List ℕ
comment_text arrows met said =
    codes "race ok" ++ (kinds_text said.kinds ++ (others_text (idents_of arrows met said.others) ++ (codes ": " ++ said.reason)))

-- a mark belongs to this statement
abbrev pub is_of : ℕ → ArrowMark → Bool
is_of statement mark = is_same mark.arrow (Some statement)

-- the mark of a statement, if it has one
abbrev pub mark_at : List ArrowMark → ℕ → Option ArrowMark
mark_at marks statement = find (is_of statement) marks

-- the mark of the arrow of an event, if it has one
abbrev pub mark_of : List ArrowMark → List Placed → EventSpans → Option ArrowMark
mark_of marks statements event = option_and_then (mark_at marks) (position (is_whole event.statement) statements)

-- the comment of an event, if its arrow has a mark
abbrev pub event_comment : List ℕ → List ArrowMark → List Placed → List MetArrow → EventSpans → Option (List ℕ)
event_comment text marks statements met event =
    option_map (λ mark. comment_text (map (spoken_arrow text) statements) met mark.said) (mark_of marks statements event)

-- the comments of events
abbrev pub mark_comments : List ℕ → List ArrowMark → List Placed → List MetArrow → List EventSpans → List (Option (List ℕ))
mark_comments text marks statements met events = map (event_comment text marks statements met) events
