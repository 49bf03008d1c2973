-- What closes the findings of a diagram as people read them.
use Rattle.std.specs.Prelude.{ℕ, ◌-◌, Bool, true, false, ◌||◌, cond, List, [], ◌++◌, Option, None, Some, codes, length, nat_eq, nat_le, nat_lt, unwrap_or}
use Rattle.msc_findings.specs.Closing.{checked_text, marked_help}
use Rattle.msc_wording.specs.declared.checking.RacesFound.{RacesFound}
use Rattle.msc_wording.specs.declared.checking.RacesFound.TheVariants.{InOneScenario, InScenarios}
use Rattle.msc_wording.specs.declared.checking.SpokenCheck.{SpokenCheck}
use Rattle.msc_wording.specs.declared.closing.MarkedText.TheVariants as texts
use Rattle.msc_diagram.specs.declared.check.UsedMarks.{UsedMarks}
use Rattle.msc_findings.specs.declared.format.Following.{Following}
use Rattle.msc_findings.specs.declared.format.Following.TheVariants.{Help, Blank}
use Rattle.msc_diagram.specs.declared.full.FullDiagram.{FullDiagram}
use Rattle.msc_diagram.specs.declared.numbers.PlaceCounts.{PlaceCounts}

-- so many places of races in so many scenarios, of which so many have no race that counts
abbrev pub found_of : ℕ → ℕ → ℕ → RacesFound
found_of listed scenarios passed = cond (nat_eq scenarios 1) (InOneScenario listed) (InScenarios listed scenarios passed)

-- how many findings are printed, if at most so many are and that is not all
abbrev pub shown_of : ℕ → ℕ → Option ℕ
shown_of listed most = cond (nat_le listed most) None (Some most)

-- what a check found, with so many stale marks: the places that count and are not listed are wider
-- ones
abbrev pub check_of : PlaceCounts → ℕ → ℕ → ℕ → ℕ → SpokenCheck
check_of counts stale most scenarios passed = record {
  found = found_of counts.listed scenarios passed;
  wider = counts.races - unwrap_or counts.allowed 0 - unwrap_or counts.accepted 0 - counts.listed;
  left_out = unwrap_or counts.allowed 0;
  accepted = unwrap_or counts.accepted 0;
  stale = stale;
  shown = shown_of counts.listed most;
  can_happen = true;
}

-- marks are used, and the diagram has some
abbrev pub has_marks : Option UsedMarks → Bool
has_marks None = false
has_marks (Some m) = nat_lt 0 (length m.accepted.now.marks)

-- what follows the closing line, if so many places are listed and a mark was met or not
abbrev pub following_by : Following → ℕ → Bool → List ℕ → List ℕ
following_by Help listed marked help = cond (marked || nat_eq listed 0) [] help
following_by Blank listed marked help = codes "\n"

-- the closing line, and what follows it
abbrev pub closing_text : FullDiagram → Option UsedMarks → PlaceCounts → ℕ → ℕ → ℕ → ℕ → List ℕ
closing_text shown marks counts stale most scenarios passed =
    checked_text shown.names (check_of counts stale most scenarios passed)
    ++ following_by shown.following counts.listed (has_marks marks) (marked_help texts.Diagram shown.names.colours)
