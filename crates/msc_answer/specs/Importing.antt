-- What is imported of a text, and what is printed of it.
use Rattle.std.specs.Prelude.{◌≡◌, ◌+◌, ◌-◌, ◌*◌, ◌&&◌, ◌||◌, ◌==◌, nat_le, not, ℕ, zero, suc, ◌++◌, Bool, true, false, cond, List, [], ◌∷◌, length, take, drop, map, Option, None, Some, Result, Ok, Err, codes, option_map, option_and_then, is_some, unwrap_or, MatchOption}
use Rattle.std.specs.Global.{Vec}
use Rattle.std.specs.List.{list_all, list_any, slice_split, suffix_len}
use Rattle.std.specs.Option.{option_map_or}
use Rattle.std.specs.Str.{bytes_eq}
use Rattle.msc_chart.specs.Drawings.{Drawing, chart_of}
use Rattle.msc_chart.specs.Faults.{IsFaultless, IsFirstFault}
use Rattle.msc_scenarios.specs.declared.TheConstants.{ROUND_LIMIT}
use Rattle.msc_import.specs.declared.importing.DiagramReading.{DiagramReading}
use Rattle.msc_import.specs.declared.importing.Imported.{Imported}
use Rattle.msc_import.specs.Drafting.{IsReadAgain}
use Rattle.msc_import.specs.Importing.{Refusal as Said, Wanted, imported, read, reading_of as reading_of_wanted, seen}
use Rattle.msc_import_marks.specs.Marked.{IsMarkedText}
use Rattle.msc_import_marks.specs.declared.marked.DrawnScenario.{DrawnScenario}
use Rattle.msc_mermaid.specs.declared.statement.Diagram.{Diagram}
use Rattle.msc_print.specs.declared.page.Page.{Page}
use Rattle.msc_links.specs.Comments.{Reading, says_nothing, unreadable, says, own_text, reading_of}
use Rattle.msc_links.specs.Said.{HasFault, SaysOwn}
use Rattle.msc_links.specs.declared.comment.OwnQueues.{OwnQueues}
use Rattle.msc_links.specs.declared.line.LineNames.{LineNames}
use Rattle.msc_mermaid.specs.declared.statement.Span.{Span}
use Rattle.msc_parser.specs.Canonical.{canonical_with}
use Rattle.msc_parser.specs.Grammar.{Tree}
use Rattle.msc_report.specs.declared.fault.Fault.TheVariants.{Chart, Memory}
use Rattle.msc_place.specs.EventPositions.{event_positions_in}
use Rattle.msc_report.specs.Lists.{listed_text}
use Rattle.msc_source.specs.declared.fault.SourceFault.{SourceFault}
use Rattle.msc_source.specs.declared.fault.SourceFault.TheVariants as sources
use Rattle.msc_answer.specs.Linked.{AreNamesOf}
use Rattle.msc_answer.specs.Spans.{bytes_at}
use Rattle.msc_answer.specs.declared.ending.Refusal.{Refusal}
use Rattle.msc_answer.specs.declared.importing.ImportedDiagram.{ImportedDiagram}
use Rattle.msc_answer.specs.declared.ending.Refusal.TheVariants as refusals
use Rattle.msc_answer.specs.declared.ending.Status.{Status}
use Rattle.msc_answer.specs.declared.ending.Status.TheVariants.{Done}
use Rattle.msc_answer.specs.declared.tasks.ChosenArgs.{ChosenArgs}
use Rattle.msc_answer.specs.declared.tasks.DiagramArgs.{DiagramArgs}
use Rattle.msc_answer.specs.declared.tasks.ImportArgs.{ImportArgs}

-- a decimal digit
abbrev pub is_digit : ℕ → Bool
is_digit b = nat_le 48 b && nat_le b 57

-- the greatest number of a choice
abbrev pub greatest_choice : ℕ
greatest_choice = 4294967295

-- a number with one digit more, where the byte is one and no greater number comes of it
abbrev pub with_digit : ℕ → ℕ → Option ℕ
with_digit n b =
    cond (is_digit b && nat_le (n * 10 + (b - 48)) greatest_choice) (Some (n * 10 + (b - 48))) None

-- the number of these digits behind such a number
unfoldable pub number_behind : ℕ → List ℕ → Option ℕ
number_behind n [] = Some n
number_behind n (b ∷ bs) = option_and_then (λ m. number_behind m bs) (with_digit n b)

-- the number of a text: digits, at least one
unfoldable pub number_of : List ℕ → Option ℕ
number_of [] = None
number_of (b ∷ bs) = number_behind 0 (b ∷ bs)

-- `,`
abbrev pub is_comma : ℕ → Bool
is_comma b = b == 44

-- the parts between commas are numbers
abbrev pub are_numbers : List ℕ → Bool
are_numbers word = list_all (λ part. is_some (number_of part)) (slice_split is_comma word)

-- a word gives choices: it is `main`, or numbers with commas between
abbrev pub gives_choices : List ℕ → Bool
gives_choices word = bytes_eq word (codes "main") || are_numbers word

-- the choice that a part of such a word is
abbrev pub choice_in : List ℕ → ℕ
choice_in part = unwrap_or (number_of part) 0

-- the choices that it gives: of `main` none, so that all are the main ones
abbrev pub choices_in : List ℕ → List ℕ
choices_in word = cond (bytes_eq word (codes "main")) [] (map choice_in (slice_split is_comma word))

-- a number of rounds that a loop may go
abbrev pub are_rounds : Option ℕ → Bool
are_rounds None = false
are_rounds (Some n) = nat_le n ROUND_LIMIT

-- a word gives numbers of rounds: its parts between commas are such
abbrev pub gives_rounds : List ℕ → Bool
gives_rounds word = list_all (λ part. are_rounds (number_of part)) (slice_split is_comma word)

-- this number is one that it gives
abbrev pub gives_round : List ℕ → ℕ → Bool
gives_round word n = list_any (λ part. option_map_or (λ m. m == n) (number_of part) false) (slice_split is_comma word)

-- the numbers of rounds below n that it gives: each once, ascending
unfoldable pub rounds_below : List ℕ → ℕ → List ℕ
rounds_below word zero = []
rounds_below word (suc n) = rounds_below word n ++ cond (gives_round word n) (n ∷ []) []

-- the numbers of rounds that a word gives: 0 and 2, where none stands
abbrev pub rounds_of : Option (List ℕ) → List ℕ
rounds_of None = 0 ∷ 2 ∷ []
rounds_of (Some word) = rounds_below word (ROUND_LIMIT + 1)

-- `/`, and `.`
abbrev pub is_slash : ℕ → Bool
is_slash b = b == 47

abbrev pub is_dot : ℕ → Bool
is_dot b = b == 46

-- how many bytes stand behind the last `/` of the name of a file, and behind the last `.` of a name
abbrev pub behind_slash : List ℕ → ℕ
behind_slash file = suffix_len (λ b. not (is_slash b)) file

abbrev pub behind_dot : List ℕ → ℕ
behind_dot name = suffix_len (λ b. not (is_dot b)) name

-- the name of a file without its folder, and a name without its last ending
abbrev pub behind_folder : List ℕ → List ℕ
behind_folder file = drop (length file - behind_slash file) file

abbrev pub before_ending : List ℕ → List ℕ
before_ending name =
    cond (nat_le (length name) (behind_dot name)) name (take (length name - behind_dot name - 1) name)

-- what the name of a chart is made of where no word says it: the name of the file, without its
-- folder and its last ending
abbrev pub title_of : List ℕ → List ℕ
title_of file = before_ending (behind_folder file)

-- what is wanted of a text, with these choices
abbrev pub wanted_with : DiagramArgs → Option (List ℕ) → Wanted
wanted_with x choices = record {
  language = x.language;
  fence = x.fence;
  cross = x.cross;
  manner = x.manner;
  choices = choices;
  name = x.name.now;
}

-- which diagram of a text is read, by the words
abbrev pub reading_in : DiagramArgs → DiagramReading
reading_in x = record { language = x.language; fence = x.fence; cross = x.cross }

-- the choices in a word, if it is given
abbrev pub choices_by : Option (List ℕ) → Option (List ℕ)
choices_by word = option_map choices_in word

-- the choices of the words, if some are given
abbrev pub choices_of : ChosenArgs → Option (List ℕ)
choices_of x = choices_by (option_map (λ c. c.now) x.choose)

-- what is wanted of a text
abbrev pub wanted_of : ChosenArgs → Wanted
wanted_of x = wanted_with x.diagram (choices_of x)

-- the given choices; without one, all are the main ones
abbrev pub choices_or_main : Wanted → List ℕ
choices_or_main x = unwrap_or x.choices []

-- what a comment line says of queues; servers may be named in it
abbrev pub line_reading : List ℕ → Span → Reading
line_reading text c = reading_of (drop 2 (bytes_at text c))

-- the first of two readings that says something
abbrev pub reading_first : Reading → Reading → Reading
reading_first says_nothing other = other
reading_first unreadable other = unreadable
reading_first (says own) other = says own

-- how the first of these comment lines reads that says something
unfoldable pub first_reading : List ℕ → List Span → Reading
first_reading text [] = says_nothing
first_reading text (c ∷ cs) = reading_first (line_reading text c) (first_reading text cs)

-- what the code has found by such a reading: nothing if it says nothing or cannot be read
abbrev pub IsFirstOwn : Reading → Option OwnQueues → Type 0
IsFirstOwn says_nothing own = own ≡ None
IsFirstOwn unreadable own = own ≡ None
IsFirstOwn (says said) own = (queues : OwnQueues) × (own_text queues ≡ said) × (own ≡ Some queues)

-- The comment with the queues that a diagram names itself, by the reading of its comment lines: it has
-- the made names of the lines. There is none if the diagram names no queues, or if a rule has a fault.
abbrev pub IsOwnComment : Reading → List ℕ → Imported → Option (List ℕ) → Type 0
IsOwnComment says_nothing text is comment = comment ≡ None
IsOwnComment unreadable text is comment = comment ≡ None
IsOwnComment (says said) text is comment =
    (queues : OwnQueues) × (own_text queues ≡ said)
    × (names : List LineNames) × AreNamesOf text is.spans (chart_of is.draft) names
    × MatchOption comment (HasFault names queues.rules.items) (SaysOwn names queues)

-- the same of what was imported of a text
abbrev pub IsCommentIn : List ℕ → Imported → Option (List ℕ) → Type 0
IsCommentIn text is comment = IsOwnComment (first_reading text is.spans.comments) text is comment

-- that comment, or why there is none: memory ran out, or the draft is no chart
abbrev pub IsCommentOf : List ℕ → Imported → Result (Option (Vec ℕ)) Refusal → Type 0
IsCommentOf text is (Ok comment) = IsCommentIn text is (option_map (λ c. c.items) comment)
IsCommentOf text is (Err (refusals.Fault Memory)) = Unit {0}
IsCommentOf text is (Err (refusals.Fault (Chart f))) = IsFirstFault is.draft f
IsCommentOf text is (Err refusal) = ⊥

-- the scenario that is wanted of this diagram, whose events stand there
abbrev pub IsScenarioFor : Wanted → Diagram → Imported → DrawnScenario → Type 0
IsScenarioFor x d is s =
    (s.diagram.now ≡ d) × (s.choices.now ≡ choices_or_main x) × (s.own ≡ x.manner.own) × (s.events.now ≡ is.spans.events)

-- The text of what was imported of a text: its canonical text, with the queues that the diagram names
-- itself, and with its marks as comments of events.
abbrev pub IsImportedText : Wanted → List ℕ → Imported → List ℕ → Type 0
IsImportedText x text is printed =
    (d : Diagram) × (read (reading_of_wanted x) text ≡ Ok d)
    × (comment : Option (List ℕ)) × IsCommentIn text is comment
    × (s : DrawnScenario) × IsScenarioFor x d is s × IsMarkedText text s (canonical_with comment is.draft) printed

-- What is printed of what was imported of a text: its text; or of its chart the list of its events,
-- with the places of their arrows in the file.
abbrev pub PrintsImported : Wanted → Bool → List ℕ → List ℕ → Imported → List ℕ → Type 0
PrintsImported x false file text is printed = IsImportedText x text is printed
PrintsImported x true file text is printed =
    IsFaultless is.draft × (printed ≡ listed_text (chart_of is.draft) (Some (event_positions_in file is.places)))

-- the chart of a draft, or its first fault, or memory ran out
abbrev pub IsChartOrFault : Tree → Result Drawing SourceFault → Type 0
IsChartOrFault draft (Ok d) = IsFaultless draft × (d ≡ chart_of draft)
IsChartOrFault draft (Err (sources.Chart f)) = IsFirstFault draft f
IsChartOrFault draft (Err sources.Memory) = Unit {0}
IsChartOrFault draft (Err fault) = ⊥

-- the page with that, or why there is none: memory ran out, or the draft is no chart
abbrev pub IsPageOf : Wanted → Bool → List ℕ → List ℕ → Imported → Result Page Refusal → Type 0
IsPageOf x list file text is (Ok page) = PrintsImported x list file text is page.bytes.items
IsPageOf x list file text is (Err (refusals.Fault Memory)) = Unit {0}
IsPageOf x list file text is (Err (refusals.Fault (Chart f))) = IsFirstFault is.draft f
IsPageOf x list file text is (Err refusal) = ⊥

-- the canonical text with the queues that a diagram names itself, or why there is none
abbrev pub IsTextOf : List ℕ → Imported → Result (Vec ℕ) Refusal → Type 0
IsTextOf text is (Ok bytes) =
    (comment : Option (List ℕ)) × IsCommentIn text is comment × (bytes.items ≡ canonical_with comment is.draft)
IsTextOf text is (Err (refusals.Fault Memory)) = Unit {0}
IsTextOf text is (Err (refusals.Fault (Chart f))) = IsFirstFault is.draft f
IsTextOf text is (Err refusal) = ⊥

-- why nothing is imported: as this says, or memory ran out
abbrev pub IsNotImported : {A : Type 0} → Result A Said → Refusal → Type 0
IsNotImported said (refusals.Import e) = said ≡ Err (seen e)
IsNotImported said (refusals.Fault Memory) = Unit {0}
IsNotImported said refusal = ⊥

-- what is imported of a text by what is wanted of it, and its text is read again; or why nothing is
abbrev pub IsImportAs : Wanted → List ℕ → Result Imported Refusal → Type 0
IsImportAs x text (Ok is) = (imported x text ≡ Ok is) × IsReadAgain is.draft
IsImportAs x text (Err refusal) = IsNotImported (imported x text) refusal

-- the diagram of a text, or why there is none
abbrev pub IsReadFor : Wanted → List ℕ → Result Diagram Refusal → Type 0
IsReadFor x text (Ok d) = read (reading_of_wanted x) text ≡ Ok d
IsReadFor x text (Err refusal) = IsNotImported (read (reading_of_wanted x) text) refusal

-- what is imported of a diagram, and the diagram with its number, if that is given; or why nothing is
pub record IsImportedDiagram (number : Option ℕ) (x : Wanted) (text : List ℕ) (drawing : ImportedDiagram) : Type 0 where
  pub imported_is : imported x text ≡ Ok drawing.imported
  pub again : IsReadAgain drawing.imported.draft
  pub diagram_is : read (reading_of_wanted x) text ≡ Ok drawing.diagram
  pub number_is : drawing.number ≡ number
  pub choices_are : drawing.choices.items ≡ unwrap_or x.choices []
  pub manner_is : drawing.manner ≡ x.manner

abbrev pub IsImportBy : Option ℕ → Wanted → List ℕ → Result ImportedDiagram Refusal → Type 0
IsImportBy number x text (Ok drawing) = IsImportedDiagram number x text drawing
IsImportBy number x text (Err refusal) = IsNotImported (imported x text) refusal

-- this is imported of a text: a chart, whose text is read again as its draft
pub record IsChosen (x : ChosenArgs) (text : List ℕ) (is : Imported) : Type 0 where
  pub of_text : imported (wanted_of x) text ≡ Ok is
  pub again : IsReadAgain is.draft
  pub faultless : IsFaultless is.draft

-- the same, with the diagram and its number, if that is given
pub record IsChosenDiagram (x : ChosenArgs) (text : List ℕ) (drawing : ImportedDiagram) : Type 0 where
  pub chosen : IsChosen x text drawing.imported
  pub diagram_is : read (reading_of_wanted (wanted_of x)) text ≡ Ok drawing.diagram
  pub number_is : drawing.number ≡ x.diagram.fence
  pub choices_are : drawing.choices.items ≡ unwrap_or (wanted_of x).choices []
  pub manner_is : drawing.manner ≡ x.diagram.manner

-- this, or why nothing is imported
abbrev pub IsChartImport : ChosenArgs → List ℕ → Result ImportedDiagram Refusal → Type 0
IsChartImport x text (Ok drawing) = IsChosenDiagram x text drawing
IsChartImport x text (Err refusal) = IsNotImported (imported (wanted_of x) text) refusal

-- what is printed of the text of a file: what is imported of it, whose text is read again as that
-- draft
abbrev pub PrintsImport : ImportArgs → List ℕ → List ℕ → List ℕ → Type 0
PrintsImport x file text printed =
    (is : Imported) × (imported (wanted_of x.chosen) text ≡ Ok is) × IsReadAgain is.draft × PrintsImported (wanted_of x.chosen) x.list file text is printed

-- why nothing is printed: nothing is imported. What is imported is a chart
abbrev pub RefusesImport : ChosenArgs → List ℕ → Refusal → Type 0
RefusesImport x text (refusals.Import e) = imported (wanted_of x) text ≡ Err (seen e)
RefusesImport x text refusal = ⊥

-- the page with what is imported, or why there is none
abbrev pub IsImportedOn : ImportArgs → List ℕ → List ℕ → Result Page Refusal → Type 0
IsImportedOn x file text (Ok page) = PrintsImport x file text page.bytes.items
IsImportedOn x file text (Err (refusals.Fault Memory)) = Unit {0}
IsImportedOn x file text (Err refusal) = RefusesImport x.chosen text refusal

-- what is printed, and how the run ends
abbrev pub PrintsImportPage : ImportArgs → List ℕ → List ℕ → Status → List ℕ → Type 0
PrintsImportPage x file text status printed = (status ≡ Done) × PrintsImport x file text printed
