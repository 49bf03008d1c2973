use Rattle.std.proofs.Common.{◌≡◌, ◌+◌, drop}
use Rattle.msc_html.specs.DiagramReports.{races_in}
use Rattle.msc_html.proofs.diagram.races_in.Given as goal

-- what is counted, and the races of the scenarios that are left
abbrev pub invariant-loop-section : goal.invariant-loop-section
invariant-loop-section l = l.races + races_in (drop l.section-index l.sections) ≡ races_in l.sections
