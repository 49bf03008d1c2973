use Rattle.std.proofs.Common.{◌≡◌, [], drop}
use Rattle.msc_import.specs.Drafting.{sections_on}
use Rattle.msc_import.proofs.drawing.sections_of.Given as goal

abbrev pub invariant-loop-i : goal.invariant-loop-i
invariant-loop-i l =
    sections_on l.lines l.names l.statements l.i (drop l.i l.plans) l.sections.items ≡ sections_on l.lines l.names l.statements 0 l.plans []
