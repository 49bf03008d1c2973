use Rattle.std.proofs.Common.{◌≡◌, map, take}
use Rattle.std.specs.String.{string_bytes}
use Rattle.msc_shown_chart.specs.Words.{name_said}
use Rattle.msc_refusals.proofs.ring.names_of.Given as goal

abbrev pub invariant-loop-section : goal.invariant-loop-section
invariant-loop-section l =
    map string_bytes l.names.items ≡ map (λ section. name_said section.decl.name) (take l.section-index l.sections)
