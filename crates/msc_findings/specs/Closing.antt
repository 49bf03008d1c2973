-- The closing line of a file, and the help on marks.
use Rattle.std.specs.Prelude.{ℕ, ◌+◌, ◌-◌, Bool, cond, ◌&&◌, List, [], ◌++◌, Option, None, Some, codes, length, nat_eq, nat_le, nat_lt, unwrap_or}
use Rattle.msc_judge.specs.declared.renderer.Heading.{Heading}
use Rattle.msc_judge.specs.declared.renderer.Totals.{Totals}
use Rattle.msc_wording.specs.Checking.{check_verdict}
use Rattle.msc_wording.specs.Closing.{closing_line, help_line, with_queues}
use Rattle.msc_wording.specs.Readying.{ready_verdict}
use Rattle.msc_wording.specs.declared.checking.RacesFound.{RacesFound}
use Rattle.msc_wording.specs.declared.checking.RacesFound.TheVariants.{InOneScenario, InRounds}
use Rattle.msc_wording.specs.declared.checking.SpokenCheck.{SpokenCheck}
use Rattle.msc_wording.specs.declared.closing.MarkedText.{MarkedText}
use Rattle.msc_wording.specs.declared.closing.MarkedText.TheVariants.{Chart}
use Rattle.msc_wording.specs.declared.readying.SpokenReadiness.{SpokenReadiness}
use Rattle.msc_findings.specs.declared.closing.ClosingNames.{ClosingNames}
use Rattle.msc_findings.specs.declared.format.Following.{Following}
use Rattle.msc_findings.specs.declared.format.Following.TheVariants.{Help, Blank}
use Rattle.msc_findings.specs.declared.format.FullFormat.{FullFormat}

-- a number, or 0 if there is none
abbrev pub number_or_none : Option ℕ → ℕ
number_or_none None = 0
number_or_none (Some n) = n

-- how many races are listed: the closest of those that count
abbrev pub listed_of : Heading → ℕ
listed_of h = unwrap_or h.closest h.counting

-- the races: in a round and between two rounds, if these are included
abbrev pub found_in : ℕ → Option ℕ → RacesFound
found_in listed None = InOneScenario listed
found_in listed (Some between) = InRounds listed between

abbrev pub found_of : Totals → RacesFound
found_of t = found_in (listed_of t.heading) t.between

-- how many findings are printed, if the list was cut
abbrev pub shown_of : Totals → Option ℕ
shown_of t = cond (nat_le (listed_of t.heading + number_or_none t.between) t.most) None (Some t.most)

-- what a check found
abbrev pub check_of : Totals → Bool → SpokenCheck
check_of t can_happen = record {
  found = found_of t;
  wider = t.heading.counting - listed_of t.heading;
  left_out = number_or_none t.heading.left_out;
  accepted = number_or_none t.heading.accepted;
  stale = t.stale;
  shown = shown_of t;
  can_happen = can_happen;
}

-- `FILE: VERDICT (queues: QUEUES)`
abbrev pub line_by : List ℕ → List ℕ → Bool → List ℕ → List ℕ
line_by file queues colours verdict = closing_line file (with_queues verdict queues) colours

abbrev pub line_with : FullFormat → List ℕ → List ℕ
line_with x verdict = line_by x.file.now x.queues.now x.text.colours verdict

abbrev pub named_line : ClosingNames → List ℕ → List ℕ
named_line names verdict = line_by names.file.now names.queues.now names.colours verdict

-- the closing line of a check
abbrev pub checked_text : ClosingNames → SpokenCheck → List ℕ
checked_text names check = named_line names (check_verdict check) ++ codes "\n"

-- the line of what a check found
abbrev pub closing_text : FullFormat → Totals → Bool → List ℕ
closing_text x t can_happen = line_with x (check_verdict (check_of t can_happen))

-- and that of what was found of ready instances
abbrev pub readiness_text : FullFormat → SpokenReadiness → List ℕ
readiness_text x r = line_with x (ready_verdict r) ++ codes "\n"

-- the help on marks is printed: some races are listed, and the text has no mark
abbrev pub helps : FullFormat → Totals → Bool
helps x t = nat_lt 0 (listed_of t.heading) && nat_eq (length x.marks.now) 0

abbrev pub marked_help : MarkedText → Bool → List ℕ
marked_help text colours = help_line text colours ++ codes "\n"

abbrev pub help_part : FullFormat → Totals → List ℕ
help_part x t = cond (helps x t) (marked_help Chart x.text.colours) []

-- what follows the closing line
abbrev pub following_by : Following → FullFormat → Totals → List ℕ
following_by Help x t = help_part x t
following_by Blank x t = codes "\n"

abbrev pub following_part : FullFormat → Totals → List ℕ
following_part x t = following_by x.following x t

-- what closes an answer, if this does
abbrev pub closing_part : FullFormat → Bool → Option Totals → List ℕ
closing_part x can_happen None = []
closing_part x can_happen (Some t) = closing_text x t can_happen ++ (codes "\n" ++ following_part x t)
