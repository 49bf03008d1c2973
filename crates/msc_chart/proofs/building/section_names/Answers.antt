use Rattle.std.proofs.Common.{map, arith, ◌∙◌, ap}
use Rattle.std.proofs.lemmas.List.{take_all}
use Rattle.msc_chart.specs.Events.{instances_of}
use Rattle.msc_chart.proofs.building.section_names.Goals as goal

pub returns : goal.returns
unfolding instances_of
returns c =
    c.loop-section.invariant
    ∙ ap (map (λ s. s.decl.name)) (take_all c.loop-section.section-index c.sections-section-items.result.now (omega arith) ∙ c.sections-section-items.ensures.value)
