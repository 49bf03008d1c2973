-- A refusal of a chart or a diagram as people read it.
use Rattle.std.specs.Prelude.{◌≡◌, ◌⊎◌, ℕ, Bool, true, false, List, [], ◌++◌, Option, None, Some, codes}
use Rattle.msc_fault_words.specs.RuleFaults.{instance, link, mark, queues, rounds}
use Rattle.msc_fault_words.specs.Words.{Words, memory}
use Rattle.msc_arrow_marks.specs.declared.fault.Slip.{Slip}
use Rattle.msc_arrow_marks.specs.declared.fault.Slip.TheVariants as arrow_slips
use Rattle.msc_fault_words.specs.declared.rule_fault.MarkSlip.{MarkSlip}
use Rattle.msc_fault_words.specs.declared.rule_fault.MarkSlip.TheVariants as slips
use Rattle.msc_fault_words.specs.declared.words.Span.{Span}
use Rattle.msc_import.specs.Importing.{short_bytes}
use Rattle.msc_import.specs.declared.importing.Refused.{Refused}
use Rattle.msc_import_notes.specs.Plain.{plain, plain_place}
use Rattle.msc_import_words.specs.Imports.{import}
use Rattle.msc_mark.specs.declared.fault.MarkFault.{MarkFault}
use Rattle.msc_mark.specs.declared.fault.MarkFault.TheVariants as marks
use Rattle.msc_notes.specs.declared.note.Note.{Note}
use Rattle.msc_parser.specs.Grammar.{Tree}
use Rattle.msc_parser.specs.Parsing.{HasDraft}
use Rattle.msc_refusals.specs.Answers.{IsBlock, IsRefusal}
use Rattle.msc_refusals.specs.Charts.{IsDraftRefusal}
use Rattle.msc_refusals.specs.Parses.{IsParseRefusal}
use Rattle.msc_refusals.specs.declared.answer.RefusedText.{RefusedText}
use Rattle.msc_report.specs.declared.fault.Fault.{Fault}
use Rattle.msc_report.specs.declared.fault.Fault.TheVariants.{Parse, Chart}
use Rattle.msc_shown_chart.specs.Marks.{text_end}
use Rattle.msc_shown_chart.specs.Words.{file_said}
use Rattle.msc_wording.specs.Closing.{closing_line, refused_verdict}
use Rattle.msc_answer.specs.declared.arrow_marks.RefusedMark.{RefusedMark}
use Rattle.msc_answer.specs.declared.ending.Refusal.{Refusal}
use Rattle.msc_answer.specs.declared.ending.Refusal.TheVariants as refusals
use Rattle.msc_answer.specs.ShownDiagrams.{with_line}
use Rattle.msc_answer.specs.declared.own.LinkRefusal.{LinkRefusal}
use Rattle.msc_answer.specs.declared.own.LinkRefusal.TheVariants as links

-- there are words for a refusal
abbrev pub has_words : Refusal → Bool
has_words (refusals.Fault (Parse f)) = true
has_words (refusals.Fault (Chart f)) = true
has_words (refusals.Fault f) = false
has_words (refusals.Pair f) = false
has_words (refusals.Mark f) = true
has_words (refusals.ArrowMark r) = true
has_words (refusals.Instance name) = true
has_words (refusals.Link fault) = true
has_words (refusals.Rounds f) = true
has_words (refusals.Import e) = true

-- the text of the comment at a place
abbrev pub comment_span : List ℕ → ℕ → Span
comment_span text at = record { first = at; past = text_end text at }

-- a faulty mark
abbrev pub mark_said : List ℕ → MarkFault → Words
mark_said text (marks.Part at) = mark slips.Part (comment_span text at)
mark_said text (marks.Reason at) = mark slips.Reason (comment_span text at)
mark_said text marks.Memory = memory

-- why there are no queues: of a fault of the text its comment is marked
abbrev pub link_said : List ℕ → LinkRefusal → Words
link_said text (links.Given fault) = link None fault
link_said text (links.Text fault place) = link (Some (comment_span text place.at)) fault
link_said text (links.Unclear place) = queues (comment_span text place.at)

-- a fault of some phase is printed so
abbrev pub IsFaultSaid : RefusedText → Fault → List ℕ → Type 0
IsFaultSaid r (Parse f) printed = (notes : List Note) × IsParseRefusal r f notes printed
IsFaultSaid r (Chart f) printed = (t : Tree) × HasDraft r.text.now t × IsDraftRefusal r t f printed
IsFaultSaid r fault printed = printed ≡ []

-- the closing line of a diagram names its file so: in Markdown with a line of it
abbrev pub IsLabel : List ℕ → List ℕ → Type 0
IsLabel file label = (line : Option ℕ) × (label ≡ with_line file line)

-- the line that closes the refusal of a diagram
abbrev pub closing_text : List ℕ → Bool → List ℕ
closing_text label colours = closing_line label (refused_verdict 0) colours ++ codes "\n"

-- A diagram is refused so for one fault: at a place of its text with LF at each end of a line, and with
-- a line that closes the refusal.
pub record IsDiagramRefusal (r : RefusedText) (w : Words) (printed : List ℕ) : Type 0 where
  pub shown : RefusedText
  pub file_is : shown.file.now ≡ r.file.now
  pub text_is : shown.text.now ≡ plain r.text.now
  pub colours_are : shown.colours ≡ r.colours
  pub block : List ℕ
  pub block_is : IsBlock shown w block
  pub label : List ℕ
  pub label_is : IsLabel r.file.now label
  pub printed_is : printed ≡ block ++ closing_text label r.colours

-- these are the words for why a diagram is not imported, with some notes and marks
pub record IsImportSaid (e : Refused) (w : Words) : Type 0 where
  pub place : Option ℕ
  pub notes : List Note
  pub spans : List Span
  pub words : w ≡ import (short_bytes e.name) place notes spans e.fault

-- a part of a diagram from a place of its text on, in the text with LF at each end of a line
abbrev pub plain_span : List ℕ → ℕ → ℕ → Span
plain_span text at past = record { first = plain_place text at; past = past }

-- these are the words for why there are no queues for a diagram: of a fault of its text the comment is
-- marked
abbrev pub IsLinkSaid : List ℕ → LinkRefusal → Words → Type 0
IsLinkSaid text (links.Given fault) w = w ≡ link None fault
IsLinkSaid text (links.Text fault place) w =
    (past : ℕ) × (w ≡ link (Some (plain_span text place.at past)) fault)
IsLinkSaid text (links.Unclear place) w = (past : ℕ) × (w ≡ queues (plain_span text place.at past))

-- what words call the fault of a mark of a diagram
abbrev pub mark_slip : Slip → MarkSlip
mark_slip arrow_slips.Part = slips.Part
mark_slip arrow_slips.Reason = slips.Reason
mark_slip arrow_slips.Label = slips.Label
mark_slip arrow_slips.Second = slips.Second

-- these are the words for a faulty mark of a diagram, from its place on
abbrev pub IsArrowMarkSaid : List ℕ → RefusedMark → Words → Type 0
IsArrowMarkSaid text r w =
    (past : ℕ) × (w ≡ mark (mark_slip r.fault.slip) (plain_span text r.fault.span.first past))

-- a chart or a diagram is refused so for a fault without a place
abbrev pub IsTextSaid : RefusedText → Words → List ℕ → Type 0
IsTextSaid r w printed = IsRefusal r w printed ⊎ IsDiagramRefusal r w printed

-- a diagram is refused so with words of which this is known
abbrev pub IsSaidOf : RefusedText → (Words → Type 0) → List ℕ → Type 0
IsSaidOf r Are printed = (w : Words) × Are w × IsDiagramRefusal r w printed

-- a refusal is printed so; nothing is, if there are no words for it
abbrev pub IsSaid : RefusedText → Refusal → List ℕ → Type 0
IsSaid r (refusals.Fault f) printed = IsFaultSaid r f printed
IsSaid r (refusals.Mark f) printed = IsRefusal r (mark_said r.text.now f) printed
IsSaid r (refusals.ArrowMark m) printed = IsSaidOf r (IsArrowMarkSaid r.text.now m) printed
IsSaid r (refusals.Link why) printed =
    IsRefusal r (link_said r.text.now why) printed ⊎ IsSaidOf r (IsLinkSaid r.text.now why) printed
IsSaid r (refusals.Instance name) printed = IsTextSaid r (instance name.now) printed
IsSaid r (refusals.Rounds f) printed = IsTextSaid r (rounds f) printed
IsSaid r (refusals.Import e) printed = IsSaidOf r (IsImportSaid e) printed
IsSaid r (refusals.Pair f) printed = printed ≡ []

-- a refusal of the text of a file is printed so, with or without colours
pub record AreWords (colours : Bool) (file text : List ℕ) (refusal : Refusal) (printed : List ℕ) : Type 0 where
  pub refused : RefusedText
  pub file_is : refused.file.now ≡ file_said file
  pub text_is : refused.text.now ≡ text
  pub colours_are : refused.colours ≡ colours
  pub said : IsSaid refused refusal printed
