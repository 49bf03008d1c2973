-- The lines that faults are printed as. This project's own formats.
use Rattle.std.specs.Prelude.{ℕ, List, [], ◌∷◌, ◌++◌, Option, None, Some, codes, map}
use Rattle.std.specs.Fmt.{decimal}
use Rattle.std.specs.List.{flat_map}
use Rattle.msc_lexer.specs.declared.fault.LexFault.{LexFault}
use Rattle.msc_lexer.specs.declared.fault.LexFault.TheVariants as lexical
use Rattle.msc_lexer.specs.Words.{spelling}
use Rattle.msc_place.specs.Excerpts.{row_of}
use Rattle.msc_place.specs.Texts.{shown_byte}
use Rattle.msc_parser.specs.Expectations.{expectation}
use Rattle.msc_parser.specs.declared.fault.ParseFault.{ParseFault}
use Rattle.msc_parser.specs.declared.fault.ParseFault.TheVariants as grammar
use Rattle.msc_chart.specs.declared.fault.ChartFault.{ChartFault}
use Rattle.msc_chart.specs.declared.fault.ChartFault.TheVariants as charts
use Rattle.msc_chart.specs.declared.fault.UnrollFault.{UnrollFault}
use Rattle.msc_chart.specs.declared.fault.UnrollFault.TheVariants as rounds
use Rattle.msc_links.specs.declared.fault.LinkFault.{LinkFault}
use Rattle.msc_links.specs.declared.fault.LinkFault.TheVariants.{NoLink, NoInstance, TwoKinds}
use Rattle.msc_mark.specs.declared.fault.MarkFault.{MarkFault}
use Rattle.msc_mark.specs.declared.fault.MarkFault.TheVariants as marks
use Rattle.msc_report.specs.declared.link.RulesOf.{RulesOf}
use Rattle.msc_report.specs.declared.link.RulesOf.TheVariants.{CommandLine, Text as OfText}
use Rattle.msc_report.specs.declared.fault.Fault.{Fault}
use Rattle.msc_report.specs.declared.fault.Fault.TheVariants.{Parse, Chart, NotStarted, Memory, Device}
use Rattle.msc_report.specs.declared.pair.EventName.{EventName}
use Rattle.msc_report.specs.declared.pair.EventName.TheVariants.{Number, Line}
use Rattle.msc_report.specs.declared.pair.NamedFault.{NamedFault}
use Rattle.msc_report.specs.declared.pair.NamedFault.TheVariants.{NoEvent, OneEvent, NoRace}

-- one line of words
abbrev pub text_line : List ℕ → List ℕ
text_line words = words ++ 10 ∷ []

-- one line with a place in it
abbrev pub placed : List ℕ → ℕ → List ℕ → List ℕ
placed before at after = before ++ (decimal at ++ text_line after)

-- the line of a lexical fault
abbrev pub lexical_line : LexFault → List ℕ
lexical_line lexical.TooLong = text_line (codes "lexical fault 1: text longer than 1048576 bytes")
lexical_line (lexical.BadByte at) = placed (codes "lexical fault 2 at ") at (codes ": byte that begins no token")
lexical_line (lexical.OpenNote at) = placed (codes "lexical fault 3 at ") at (codes ": note without end")
lexical_line (lexical.OpenText at) = placed (codes "lexical fault 4 at ") at (codes ": text without end")
lexical_line (lexical.LongName at) = placed (codes "lexical fault 5 at ") at (codes ": name longer than 64 bytes")
lexical_line lexical.Memory = text_line (codes "memory fault")

-- the line of a fault of the grammar
abbrev pub grammar_line : ParseFault → List ℕ
grammar_line (grammar.Lex f) = lexical_line f
grammar_line (grammar.Unsupported at word) = codes "grammar fault 2 at " ++ (decimal at ++ (codes ": " ++ (spelling word ++ text_line (codes " is not supported"))))
grammar_line (grammar.Expected at w) = codes "grammar fault 3 at " ++ (decimal at ++ (codes ": expected " ++ text_line (expectation w)))
grammar_line grammar.Memory = text_line (codes "memory fault")

-- the line of a chart's fault by its number, what stands before its place, its place where it has
-- one, and what stands behind it
abbrev pub numbered : ℕ → List ℕ → Option ℕ → List ℕ → List ℕ
numbered number before None after = codes "chart fault " ++ (decimal number ++ (codes ": " ++ (before ++ text_line after)))
numbered number before (Some at) after = codes "chart fault " ++ (decimal number ++ (codes ": " ++ placed before at after))

-- the line of a chart's fault
abbrev pub chart_fault_line : ChartFault → List ℕ
chart_fault_line charts.TooManyInstances = numbered 1 (codes "more than 32 instances") None []
chart_fault_line (charts.TwiceInstance i) = numbered 2 (codes "section ") (Some i) (codes " repeats an instance name")
chart_fault_line (charts.HeaderWithoutBody k) = numbered 3 (codes "header name ") (Some k) (codes " has no section")
chart_fault_line (charts.UnknownAddress e) = numbered 4 (codes "event ") (Some e) (codes " has an unknown address")
chart_fault_line charts.TooManyMessages = numbered 5 (codes "more than 1024 messages") None []
chart_fault_line charts.TooManyActions = numbered 11 (codes "more than 1024 actions") None []
chart_fault_line (charts.TwiceEvent e) = numbered 6 (codes "event ") (Some e) (codes " repeats a message")
chart_fault_line (charts.UnmatchedOut e) = numbered 7 (codes "output ") (Some e) (codes " has no input")
chart_fault_line (charts.UnmatchedIn e) = numbered 8 (codes "input ") (Some e) (codes " has no output")
chart_fault_line (charts.Cyclic e) = numbered 9 (codes "event ") (Some e) (codes " precedes itself")
chart_fault_line charts.Memory = text_line (codes "memory fault")

-- a fault's line
abbrev pub fault_line : Fault → List ℕ
fault_line (Parse f) = grammar_line f
fault_line (Chart f) = chart_fault_line f
fault_line (NotStarted i) =
    placed (codes "run fault 1: instance ") i (codes " could not be started")
fault_line Memory = text_line (codes "memory fault")
fault_line Device = text_line (codes "device fault")

-- the name of an event on a command line: its number, or a line of the text
abbrev pub event_word : EventName → List ℕ
event_word (Number e) = decimal e
event_word (Line line) = codes ":" ++ decimal line

-- the line of why two names are not what is asked for
abbrev pub pair_fault_line : NamedFault → List ℕ
pair_fault_line (NoEvent name) = codes "pair fault 1: no event " ++ text_line (event_word name)
pair_fault_line (OneEvent e f) =
    codes "pair fault 2: " ++ (event_word e ++ (codes " and " ++ (event_word f ++ text_line (codes " are one event"))))
pair_fault_line (NoRace e f) =
    codes "pair fault 3: " ++ (event_word e ++ (codes " " ++ (event_word f ++ text_line (codes " is no race"))))

-- the line of a name that is that of no instance; a byte that can't be printed is a question mark
abbrev pub instance_fault_line : List ℕ → List ℕ
instance_fault_line name = codes "ready fault 1: no instance " ++ text_line (map shown_byte name)

-- bytes of a text as an excerpt shows them, one by one
abbrev pub each_shown : List ℕ → List ℕ
each_shown bytes = flat_map (λ b. row_of (b ∷ [])) bytes

-- how bytes of rules for links are shown: those of a command line as the name of a file, those of a
-- text as an excerpt of it
abbrev pub shown_in : RulesOf → List ℕ → List ℕ
shown_in CommandLine bytes = map shown_byte bytes
shown_in OfText bytes = each_shown bytes

-- the line of the fault of a rule for links
abbrev pub link_fault_line : RulesOf → LinkFault → List ℕ
link_fault_line rules (NoLink link) = codes "link fault 1: " ++ (shown_in rules link.now ++ text_line (codes " is no link"))
link_fault_line rules (NoInstance name) = codes "link fault 2: no instance " ++ text_line (shown_in rules name.now)
link_fault_line rules (TwoKinds link) = codes "link fault 3: " ++ (shown_in rules link.now ++ text_line (codes " has two kinds"))

-- the line of a comment that is to name queues and cannot be read, with the number of its place: of a
-- chart's comment its byte, of a diagram's its line
abbrev pub queues_fault_line : ℕ → List ℕ
queues_fault_line number = placed (codes "link fault 4 at ") number (codes ": queues expected")

-- the line of a comment that is to be a mark, and is none
abbrev pub mark_fault_line : MarkFault → List ℕ
mark_fault_line (marks.Part at) = placed (codes "accept fault 1 at ") at (codes ": expected in, with or a reason")
mark_fault_line (marks.Reason at) = placed (codes "accept fault 2 at ") at (codes ": no reason")
mark_fault_line marks.Memory = text_line (codes "memory fault")

-- why two rounds of a chart are no chart
abbrev pub unroll_fault_line : UnrollFault → List ℕ
unroll_fault_line rounds.TooManyMessages = text_line (codes "again fault 1: more than 512 messages")
unroll_fault_line rounds.TooManyActions = text_line (codes "again fault 2: more than 512 actions")
unroll_fault_line rounds.Memory = text_line (codes "memory fault")
