-- What follows the answers on all diagrams of a scan.
use Rattle.std.specs.Prelude.{ℕ, Bool, false, ◌||◌, ◌&&◌, cond, nat_eq, nat_lt, List, [], ◌++◌, Option, None, Some, codes}
use Rattle.std.specs.Fmt.{decimal}
use Rattle.msc_wording.specs.Closing.{bold, help_line}
use Rattle.msc_wording.specs.Numbers.{plural}
use Rattle.msc_wording.specs.declared.closing.MarkedText.{MarkedText}
use Rattle.msc_scanning.specs.Outcomes.{plus}
use Rattle.msc_scanning.specs.declared.tally.Tally.{Tally}

-- `N THING`, in the singular or the plural
abbrev pub number_of : ℕ → List ℕ → List ℕ → List ℕ
number_of n one several = decimal n ++ (codes " " ++ plural n one several)

-- a number of things, unless it is 0, with a comma before it if others are before it
abbrev pub part_text : Bool → ℕ → List ℕ → List ℕ → List ℕ
part_text begun n one several = cond (nat_lt 0 n) (cond begun (codes ", ") [] ++ number_of n one several) []

-- how many diagrams pass or have races
abbrev pub first_parts : Tally → List ℕ
first_parts t =
    part_text false t.passed (codes "passes") (codes "pass")
    ++ part_text (nat_lt 0 t.passed) t.races (codes "has races") (codes "have races")

-- how many have stale marks or are refused
abbrev pub other_parts : Tally → List ℕ
other_parts t =
    part_text (nat_lt 0 t.passed || nat_lt 0 t.races) t.stale (codes "has stale marks") (codes "have stale marks")
    ++ part_text ((nat_lt 0 t.passed || nat_lt 0 t.races) || nat_lt 0 t.stale) t.refused (codes "is refused") (codes "are refused")

-- all of them pass
abbrev pub all_pass : Tally → Bool
all_pass t = nat_eq t.races 0 && (nat_eq t.stale 0 && nat_eq t.refused 0)

abbrev pub verdict_text : Tally → List ℕ
verdict_text t = cond (all_pass t) (codes "no races") (first_parts t ++ other_parts t)

-- how many have an answer: the others failed
abbrev pub answered : Tally → ℕ
answered t = plus (plus (plus t.passed t.races) t.stale) t.refused

-- how many diagrams in how many files were checked
abbrev pub diagrams_text : Tally → List ℕ
diagrams_text t = codes "checked " ++ number_of (answered t) (codes "diagram") (codes "diagrams")

abbrev pub files_text : Tally → List ℕ
files_text t = codes " in " ++ number_of t.files (codes "file") (codes "files")

abbrev pub checked_text : Tally → List ℕ
checked_text t =
    cond (nat_eq (answered t) 0) (codes "nothing was checked")
    (diagrams_text t ++ (files_text t ++ (codes ": " ++ verdict_text t)))

-- what marks accept, and what failed
abbrev pub accepted_text : Tally → List ℕ
accepted_text t =
    cond (nat_eq t.accepted 0) [] (codes "; " ++ (number_of t.accepted (codes "race is") (codes "races are") ++ codes " accepted"))

abbrev pub failed_text : Tally → List ℕ
failed_text t = cond (nat_eq t.failed 0) [] (codes "; " ++ (number_of t.failed (codes "path") (codes "paths") ++ codes " failed"))

-- what the last line of findings as people read them says
abbrev pub said_text : Tally → List ℕ
said_text t = checked_text t ++ (accepted_text t ++ failed_text t)

abbrev pub last_text : Tally → Bool → List ℕ
last_text t colours = bold (said_text t) colours ++ codes "\n"

-- how many diagrams there are: those that failed too
abbrev pub all_of : Tally → ℕ
all_of t = plus (answered t) t.failed

-- the last line of the form `text`
abbrev pub total_text : Tally → List ℕ
total_text t =
    (codes "total " ++ decimal (all_of t))
    ++ ((codes ": " ++ (decimal t.passed ++ codes " passed, "))
    ++ ((decimal (plus t.races t.stale) ++ codes " with races, ")
    ++ ((decimal t.refused ++ codes " refused, ") ++ (decimal t.failed ++ codes " failed\n"))))

-- `N diagrams say nothing of their queues`
abbrev pub silent_text : ℕ → List ℕ
silent_text n =
    cond (nat_eq n 1) (codes "1 diagram says nothing of its queues") (decimal n ++ codes " diagrams say nothing of their queues")

-- the note on such diagrams, without its first word
abbrev pub note_rest : ℕ → List ℕ
note_rest n =
    codes ": " ++ (silent_text n ++ codes ": checked as \"pair\", a connection for each sender and receiver (msc scan --help)\n")

-- the note, if there are some
abbrev pub note_text : ℕ → Bool → List ℕ
note_text n colours = cond (nat_eq n 0) [] (bold (codes "note") colours ++ note_rest n)

-- how a race is accepted, if some are listed and no mark was met
abbrev pub help_text : Option MarkedText → Bool → Bool → List ℕ
help_text None marked colours = []
help_text (Some text) marked colours = cond marked [] (help_line text colours ++ codes "\n")

-- what follows the findings of all diagrams: the help, the note if the queues are those of the texts,
-- and the last line
abbrev pub end_text : Tally → Bool → Bool → List ℕ
end_text t is_own colours =
    help_text t.help t.marked colours ++ (cond is_own (note_text t.silent colours) [] ++ last_text t colours)
