-- The faults of a draft that is no chart, in words.
use Rattle.std.specs.Prelude.{ℕ, Bool, true, false, cond, List, [], ◌++◌, Option, None, Some, codes}
use Rattle.msc_chart.specs.declared.fault.ChartFault.{ChartFault}
use Rattle.msc_chart.specs.declared.fault.ChartFault.TheVariants as charts
use Rattle.msc_diagnostic.specs.declared.mark.Sign.TheVariants.{Caret, Dash}
use Rattle.msc_notes.specs.declared.note.Note.{Note}
use Rattle.msc_notes.specs.declared.note.Tag.TheVariants.{First, Name, Nearest}
use Rattle.msc_fault_words.specs.declared.message.MessageEnd.{MessageEnd}
use Rattle.msc_fault_words.specs.declared.words.Span.{Span}
use Rattle.msc_fault_words.specs.Messages.{twice, unmatched}
use Rattle.msc_fault_words.specs.Told.{note_place, note_text, shown_bytes}
use Rattle.msc_fault_words.specs.Words.{Words, marks_at, memory}

-- a sentence and a mark at the fault's place
abbrev pub placed : List ℕ → List ℕ → Option ℕ → List Span → Words
placed id sentence place spans =
    record { id = id; sentence = sentence; marks = marks_at spans place Caret []; helps = [] }

-- an instance whose name an earlier one has
unfoldable pub defined_twice : List ℕ → List ℕ
defined_twice name = codes "the instance \"" ++ (name ++ codes "\" is defined twice")

abbrev pub twice_named : Option ℕ → List Note → List Span → Words
twice_named place notes spans = record {
  id = codes "chart 2";
  sentence = defined_twice (shown_bytes (note_text Name notes));
  marks = marks_at spans place Caret (codes "defined again here")
      ++ marks_at spans (note_place First notes) Dash (codes "first defined here");
  helps = [];
}

-- a name of the header, or any other, that no instance has
unfoldable pub header_text : List ℕ → List ℕ
header_text name = codes "the header names \"" ++ (name ++ codes "\", but no instance has this name")

unfoldable pub named_text : List ℕ → List ℕ
named_text name = codes "no instance is named \"" ++ (name ++ codes "\"")

-- with the one that may have been meant
abbrev pub unknown : List ℕ → List ℕ → Option ℕ → List Note → List Span → Words
unknown id sentence place notes spans = record {
  id = id;
  sentence = sentence;
  marks = marks_at spans place Caret [] ++ marks_at spans (note_place Nearest notes) Dash (codes "is this one meant?");
  helps = [];
}

abbrev pub unknown_name : Bool → Option ℕ → List Note → List Span → Words
unknown_name is_header place notes spans =
    cond is_header
    (unknown (codes "chart 3") (header_text (shown_bytes (note_text Name notes))) place notes spans)
    (unknown (codes "chart 4") (named_text (shown_bytes (note_text Name notes))) place notes spans)

-- faults of messages; without the event of the fault the sentence has no names
abbrev pub twice_at : Option ℕ → List Note → List Span → Option MessageEnd → Words
twice_at place notes spans None = placed (codes "chart 6") (codes "a message is there twice") place spans
twice_at place notes spans (Some end) = twice end place notes spans

abbrev pub unmatched_at : List ℕ → Option ℕ → List Note → List Span → Option MessageEnd → Words
unmatched_at id place notes spans None = placed id (codes "a message lacks its other end") place spans
unmatched_at id place notes spans (Some end) = unmatched id end place notes spans

-- the words of a fault
abbrev pub chart : Option ℕ → List Note → List Span → Option MessageEnd → ChartFault → Words
chart place notes spans end charts.TooManyInstances =
    placed (codes "chart 1") (codes "more than 32 instances") place spans
chart place notes spans end (charts.TwiceInstance i) = twice_named place notes spans
chart place notes spans end (charts.HeaderWithoutBody k) = unknown_name true place notes spans
chart place notes spans end (charts.UnknownAddress e) = unknown_name false place notes spans
chart place notes spans end charts.TooManyMessages =
    placed (codes "chart 5") (codes "more than 1024 messages") place spans
chart place notes spans end charts.TooManyActions =
    placed (codes "chart 11") (codes "more than 1024 actions") place spans
chart place notes spans end (charts.TwiceEvent e) = twice_at place notes spans end
chart place notes spans end (charts.UnmatchedOut e) =
    unmatched_at (codes "chart 7") place notes spans end
chart place notes spans end (charts.UnmatchedIn e) =
    unmatched_at (codes "chart 8") place notes spans end
chart place notes spans end (charts.Cyclic e) =
    placed (codes "chart 9") (codes "these events wait for each other, so none of them can happen") place spans
chart place notes spans end charts.Memory = memory
