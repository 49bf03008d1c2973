use Rattle.std.proofs.Common.{map, arith}
use Rattle.std.proofs.lemmas.List.{length-map}
use Rattle.msc_chart.specs.Views.{mark_view}
use Rattle.msc_chart.proofs.Stages.{least_within, unknown_address_first, known_addresses_clear}
use Rattle.msc_chart.proofs.building.refuse_unknown_address.Goals as goal

pub overflow_cast-result : goal.overflow_cast-result
overflow_cast-result c =
    let marks = c.args.marks.now in
    let within = least_within (map mark_view marks) c.in-Some.e c.in-Some.ensures in
    omega (arith, within, length-map marks mark_view, c.requires.few)

pub returns-in-Some-clause-fault : goal.returns-in-Some-clause-fault
returns-in-Some-clause-fault c =
    unknown_address_first c.args.draft.now c.args.instances.now.keys c.requires.names c.args.marks.now
    c.requires.acts c.requires.clear c.in-Some.e c.in-Some.ensures

pub returns-in-None-clause-clear : goal.returns-in-None-clause-clear
returns-in-None-clause-clear c =
    known_addresses_clear c.args.draft.now c.args.instances.now.keys c.requires.names c.args.marks.now
    c.requires.acts c.requires.clear c.in-None.ensures
