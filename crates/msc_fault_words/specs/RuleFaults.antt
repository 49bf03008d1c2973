-- Faults of rules for links, of comments, and of the words of a command line, in words.
use Rattle.std.specs.Prelude.{ℕ, List, [], ◌∷◌, ◌++◌, Option, None, Some, codes, map}
use Rattle.msc_fault_words.specs.declared.rule_fault.MarkSlip.{MarkSlip}
use Rattle.msc_fault_words.specs.declared.rule_fault.MarkSlip.TheVariants as slips
use Rattle.msc_chart.specs.declared.fault.UnrollFault.{UnrollFault}
use Rattle.msc_chart.specs.declared.fault.UnrollFault.TheVariants as unrolls
use Rattle.msc_diagnostic.specs.declared.mark.Sign.TheVariants.{Caret}
use Rattle.msc_diagnostic.specs.Plain.{Mark}
use Rattle.msc_links.specs.declared.fault.LinkFault.{LinkFault}
use Rattle.msc_links.specs.declared.fault.LinkFault.TheVariants.{NoLink, NoInstance, TwoKinds}
use Rattle.msc_place.specs.Excerpts.{row_of}
use Rattle.msc_place.specs.Texts.{shown_byte}
use Rattle.msc_fault_words.specs.ChartFaults.{named_text}
use Rattle.msc_fault_words.specs.declared.words.Span.{Span}
use Rattle.msc_fault_words.specs.Told.{shown_bytes}
use Rattle.msc_fault_words.specs.Words.{Words, bare, mark_of, memory}

-- bytes of a rule: those of a comment as an excerpt of the text shows them, those of a command line as
-- the name of a file
abbrev pub rule_bytes : Option Span → List ℕ → List ℕ
rule_bytes None bytes = map shown_byte bytes
rule_bytes (Some comment) bytes = row_of bytes

-- the comment with the rule
abbrev pub comment_marks : Option Span → List Mark
comment_marks None = []
comment_marks (Some comment) = mark_of comment Caret [] ∷ []

unfoldable pub no_link_text : List ℕ → List ℕ
no_link_text link = link ++ codes " is no link"

unfoldable pub missing_text : List ℕ → List ℕ
missing_text name = codes "no instance " ++ name

unfoldable pub two_kinds_text : List ℕ → List ℕ
two_kinds_text link = link ++ codes " has two kinds"

abbrev pub ruled : List ℕ → List ℕ → Option Span → Words
ruled id sentence comment = record { id = id; sentence = sentence; marks = comment_marks comment; helps = [] }

-- the fault of a rule
abbrev pub link : Option Span → LinkFault → Words
link comment (NoLink it) = ruled (codes "link 1") (no_link_text (shown_bytes (rule_bytes comment it.now))) comment
link comment (NoInstance name) =
    ruled (codes "link 2") (missing_text (shown_bytes (rule_bytes comment name.now))) comment
link comment (TwoKinds it) =
    ruled (codes "link 3") (two_kinds_text (shown_bytes (rule_bytes comment it.now))) comment

-- a comment that is to name the queues
abbrev pub queues : Span → Words
queues comment = record {
  id = codes "link 4";
  sentence = codes "this does not say which queues";
  marks = mark_of comment Caret [] ∷ [];
  helps = codes "queues ARCH; KIND LINK, LINK; .." ∷ [];
}

-- a faulty mark
abbrev pub mark_id : MarkSlip → List ℕ
mark_id slips.Part = codes "accept 1"
mark_id slips.Reason = codes "accept 2"
mark_id slips.Label = codes "accept 3"
mark_id slips.Second = codes "accept 4"

abbrev pub mark_sentence : MarkSlip → List ℕ
mark_sentence slips.Part = codes "this mark cannot be read"
mark_sentence slips.Reason = codes "this mark gives no reason"
mark_sentence slips.Label = codes "this mark is part of the arrow's label"
mark_sentence slips.Second = codes "the arrow below has a mark already"

abbrev pub mark_help : MarkSlip → List ℕ
mark_help slips.Part = codes "a mark is: race ok [in ARCH, ..] [with ID; ..]: REASON"
mark_help slips.Reason = codes "a mark is: race ok [in ARCH, ..] [with ID; ..]: REASON"
mark_help slips.Label = codes "put it in a line of its own, above the arrow"
mark_help slips.Second = codes "a race can be accepted at either of its arrows"

abbrev pub mark : MarkSlip → Span → Words
mark slip span = record {
  id = mark_id slip;
  sentence = mark_sentence slip;
  marks = mark_of span Caret [] ∷ [];
  helps = mark_help slip ∷ [];
}

-- a name that is that of no instance
abbrev pub instance : List ℕ → Words
instance name = bare (codes "ready 1") (named_text (shown_bytes (map shown_byte name)))

-- why two rounds of a chart are no chart
abbrev pub rounds : UnrollFault → Words
rounds unrolls.TooManyMessages = bare (codes "again 1") (codes "more than 512 messages")
rounds unrolls.TooManyActions = bare (codes "again 2") (codes "more than 512 actions")
rounds unrolls.Memory = memory
