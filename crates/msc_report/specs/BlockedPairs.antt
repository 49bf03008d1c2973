-- The texts that answers on ready instances are printed as. This project's own formats.
use Rattle.std.specs.Prelude.{ℕ, zero, suc, Bool, false, cond, List, [], ◌++◌, Option, None, Some, codes, get_or, length, nat_eq}
use Rattle.std.specs.Fmt.{decimal}
use Rattle.msc_chart.specs.declared.queue.Queues.{Queues}
use Rattle.msc_chart.specs.Charts.{line, message, partner}
use Rattle.msc_chart.specs.Drawings.{Drawing, message_at}
use Rattle.msc_place.specs.EventPositions.{EventPositionsIn}
use Rattle.msc_report.specs.Texts.{text_line}
use Rattle.msc_report.specs.Links.{queues_text}
use Rattle.msc_report.specs.Verdicts.{instance_text, message_text, name_line, pair_place, race_events, race_text}
use Rattle.msc_report.specs.Lines.{pair_text}
use Rattle.msc_report.specs.Styles.{at_text, event_positions_in}
use Rattle.msc_report.specs.declared.style.Style.{Style}

-- the name of instance i, where the list says that it is ready
abbrev pub ready_name : Drawing → List Bool → ℕ → List ℕ
ready_name d lines i = cond (get_or lines i false) (codes " " ++ instance_text d i) []

-- the names of those below i, in their order
abbrev pub ready_names : Drawing → List Bool → ℕ → List ℕ
ready_names d lines zero = []
ready_names d lines (suc i) = ready_names d lines i ++ ready_name d lines i

-- which instances are ready, where not all are
abbrev pub ready_line : Drawing → Option (List Bool) → List ℕ
ready_line d None = []
ready_line d (Some lines) = codes "ready" ++ text_line (ready_names d lines (length d.instances))

-- whether a system with so many sticks finishes, may stick, or never finishes
abbrev pub finishing_line : ℕ → Bool → List ℕ
finishing_line count may =
    cond (nat_eq count 0) (text_line (codes "finishes"))
    (cond may (codes "may stick ") (codes "never finishes ") ++ text_line (decimal count))

-- what is written before sticks
abbrev pub ready_head : Drawing → Queues → Option (List Bool) → ℕ → Bool → List ℕ
ready_head d queues lines count may =
    name_line d ++ (queues_text d queues ++ (ready_line d lines ++ finishing_line count may))

-- what comes at an input: its message, and from whom
abbrev pub coming_text : Drawing → ℕ → List ℕ
coming_text d e =
    message_text (message_at d (message d.events e)) ++ (codes " from " ++ instance_text d (line d.events (partner d.events e)))

-- a word, two events of one line, which line that is, and what both of them do
abbrev pub told_line : List ℕ → Drawing → ℕ → ℕ → List ℕ
told_line word d e f = pair_place word d e f ++ (codes ": " ++ race_events d e f)

-- the same, and where they stand
abbrev pub told_pair : Option EventPositionsIn → List ℕ → Drawing → ℕ → ℕ → List ℕ
told_pair event_positions word d e f =
    pair_place word d e f ++ (codes ": " ++ (race_events d e f ++ at_text event_positions [] e f))

-- the outputs of two inputs, of which the first would have to stand before the other
abbrev pub needs_text : Option EventPositionsIn → Drawing → ℕ → ℕ → List ℕ
needs_text event_positions d e f = pair_text event_positions [] (codes "needs") d (partner d.events e) (partner d.events f)

-- a stick, and its two outputs
abbrev pub stick_lines : Option EventPositionsIn → Drawing → ℕ → ℕ → List ℕ
stick_lines event_positions d e f = told_pair event_positions (codes "stick") d e f ++ needs_text event_positions d e f

-- the name of the instance of an event
abbrev pub owner_text : Drawing → ℕ → List ℕ
owner_text d e = instance_text d (line d.events e)

-- what the instance waits for, and what stands before that in its queue
abbrev pub waits_line : Drawing → ℕ → ℕ → List ℕ
waits_line d e f =
    owner_text d e ++ (codes " waits for " ++ (coming_text d e
    ++ (codes "; in its queue " ++ (coming_text d f ++ text_line (codes " stands first")))))

-- the same, where answers are in words
abbrev pub waits_text : Bool → Drawing → ℕ → ℕ → List ℕ
waits_text words d e f = cond words (waits_line d e f) []

-- a stick in a style, without what shows it
abbrev pub bare_stick : Style → Drawing → ℕ → ℕ → List ℕ
bare_stick style d e f = stick_lines (event_positions_in style) d e f ++ waits_text style.words d e f

-- that a stick is not first: which one is ahead of it
abbrev pub behind_line : ℕ × ℕ → List ℕ
behind_line p = codes "behind " ++ (decimal p.0 ++ (codes " " ++ text_line (decimal p.1)))

-- how many races are left
abbrev pub left_line : ℕ → List ℕ
left_line count = codes "races " ++ text_line (decimal count)

-- a race that is left
abbrev pub left_race : Style → Drawing → ℕ × ℕ → List ℕ
left_race style d p = race_text d p.0 p.1 None ++ at_text (event_positions_in style) [] p.0 p.1
