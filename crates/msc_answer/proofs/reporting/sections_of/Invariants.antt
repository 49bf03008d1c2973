use Rattle.std.proofs.Common.{◌≡◌, take}
use Rattle.msc_html.specs.DiagramReports.{races_in}
use Rattle.msc_answer.specs.Reported.{AreSections}
use Rattle.msc_answer.proofs.reporting.sections_of.Given as goal

-- the sections are those of the scenarios so far
abbrev pub invariant-loop-i : goal.invariant-loop-i
invariant-loop-i l = record {
  are : AreSections l.words l.told l.scenarios (take l.i l.new) l.sections.items;
  first : l.first ≡ races_in l.sections.items;
}
