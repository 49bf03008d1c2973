-- The texts that verdicts and races are printed as. This project's own formats.
use Rattle.std.specs.Prelude.{ℕ, ◌||◌, cond, List, [], ◌∷◌, ◌++◌, Option, None, Some, codes, get_or, length, nat_eq, nat_lt}
use Rattle.std.specs.Fmt.{decimal}
use Rattle.std.specs.List.{flat_map}
use Rattle.msc_chart.specs.declared.event.EventKind.{EventKind}
use Rattle.msc_chart.specs.declared.event.EventKind.TheVariants.{Output, Input, Local}
use Rattle.msc_chart.specs.declared.message.Message.{Message}
use Rattle.msc_chart.specs.declared.queue.Queues.{Queues}
use Rattle.msc_chart.specs.Architectures.{queues_word}
use Rattle.msc_chart.specs.Charts as charts
use Rattle.msc_chart.specs.Drawings.{Drawing, label_of, message_at}
use Rattle.msc_race.specs.declared.verdict.Verdict.{Verdict}
use Rattle.msc_race.specs.declared.verdict.Verdict.TheVariants.{Pass, Races}
use Rattle.msc_report.specs.Texts.{text_line}

-- the line of a chart's name
abbrev pub name_line : Drawing → List ℕ
name_line d = codes "chart " ++ text_line d.name

-- the line of an architecture
abbrev pub queues_line : Queues → List ℕ
queues_line queues = codes "queues " ++ text_line (queues_word queues)

-- whether a chart passes, or how many races it has
abbrev pub outcome_line : Verdict → List ℕ
outcome_line Pass = text_line (codes "pass")
outcome_line (Races pairs) = codes "races " ++ text_line (decimal (length pairs))

-- the line of so many races: a chart without races passes
abbrev pub count_line : ℕ → List ℕ
count_line count = cond (nat_eq count 0) (text_line (codes "pass")) (codes "races " ++ text_line (decimal count))

-- the name of instance i
abbrev pub instance_text : Drawing → ℕ → List ℕ
instance_text d i = get_or d.instances i []

-- a message instance name, where there is one
abbrev pub number_text : Option (List ℕ) → List ℕ
number_text None = []
number_text (Some number) = codes ", " ++ number

-- what a message is called: its name, and its message instance name where it has one, but not the
-- parameters of its output or input
abbrev pub message_text : Message → List ℕ
message_text m = m.name ++ number_text m.number

-- a byte of an action's text in one line: an apostrophe is doubled, and what is no visible character
-- of ASCII and no space is a question mark
abbrev pub shown_byte : ℕ → List ℕ
shown_byte b = cond (nat_eq b 39) (codes "''") (cond (nat_lt b 32 || nat_lt 126 b) (codes "?") (b ∷ []))

-- an action by its text
abbrev pub action_text : List ℕ → List ℕ
action_text label = codes "action '" ++ (flat_map shown_byte label ++ codes "'")

-- the words of an event of this kind: an output or an input of a message, with the name of the
-- instance at the other end, or an action by its text
abbrev pub statement_text : EventKind → List ℕ → List ℕ → List ℕ → List ℕ
statement_text Output message address label = codes "out " ++ (message ++ (codes " to " ++ address))
statement_text Input message address label = codes "in " ++ (message ++ (codes " from " ++ address))
statement_text Local message address label = action_text label

-- event e, as its statement says it
abbrev pub event_text : Drawing → ℕ → List ℕ
event_text d e =
    let message = message_text (message_at d (charts.message d.events e)) in
    let address = instance_text d (charts.line d.events (charts.partner d.events e)) in
    statement_text (charts.kind d.events e) message address (label_of d e)

-- event e behind the name of its instance
abbrev pub event_at : Drawing → ℕ → List ℕ
event_at d e = instance_text d (charts.line d.events e) ++ (codes " " ++ event_text d e)

-- a word, two events of one line, and which line that is
abbrev pub pair_place : List ℕ → Drawing → ℕ → ℕ → List ℕ
pair_place word d e f =
    word ++ (codes " " ++ (decimal e ++ (codes " " ++ (decimal f
    ++ (codes " on " ++ instance_text d (charts.line d.events e))))))

-- which events race, and on which line
abbrev pub race_place : Drawing → ℕ → ℕ → List ℕ
race_place d e f = pair_place (codes "race") d e f

-- what both of them do
abbrev pub race_events : Drawing → ℕ → ℕ → List ℕ
race_events d e f = event_text d e ++ (codes "; " ++ text_line (event_text d f))

-- a number after a space
abbrev pub spaced : ℕ → List ℕ
spaced e = codes " " ++ decimal e

-- the events of a run, where one is shown
abbrev pub run_line : Option (List ℕ) → List ℕ
run_line None = []
run_line (Some events) = codes "run" ++ text_line (flat_map spaced events)

-- one race, and a run that shows it where one is given
abbrev pub race_text : Drawing → ℕ → ℕ → Option (List ℕ) → List ℕ
race_text d e f run = race_place d e f ++ (codes ": " ++ (race_events d e f ++ run_line run))
