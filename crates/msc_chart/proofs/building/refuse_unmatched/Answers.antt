use Rattle.std.proofs.Common.{map, arith}
use Rattle.std.proofs.lemmas.List.{length-map}
use Rattle.msc_chart.specs.Views.{mark_view}
use Rattle.msc_chart.proofs.Stages.{least_within, matched_inputs_clear, matched_outputs_clear, unmatched_input_first, unmatched_output_first}
use Rattle.msc_chart.proofs.building.refuse_unmatched.Goals as goal

pub overflow_cast-result : goal.overflow_cast-result
overflow_cast-result c =
    let within = least_within (map mark_view c.args.marks.now) c.in-Some.e c.in-Some.ensures in
    omega (arith, within, length-map c.args.marks.now mark_view, c.requires.few)

pub overflow_cast-result-in-Some-unmatched : goal.overflow_cast-result-in-Some-unmatched
overflow_cast-result-in-Some-unmatched c =
    let within = least_within (map mark_view c.args.marks.now) c.in-Some-unmatched.e c.in-Some-unmatched.ensures in
    omega (arith, within, length-map c.args.marks.now mark_view, c.requires.few)

pub returns-in-Some-clause-fault : goal.returns-in-Some-clause-fault
returns-in-Some-clause-fault c =
    unmatched_output_first c.args.draft.now c.args.marks.now c.requires.acts c.requires.clear
    c.in-Some.e c.in-Some.ensures

pub returns-in-Some-unmatched-clause-fault : goal.returns-in-Some-unmatched-clause-fault
returns-in-Some-unmatched-clause-fault c =
    let d = c.args.draft.now in
    let marks = c.args.marks.now in
    unmatched_input_first d marks c.requires.acts
    (matched_outputs_clear d marks c.requires.acts c.requires.clear c.in_default.ensures)
    c.in-Some-unmatched.e c.in-Some-unmatched.ensures

pub returns-clause-clear : goal.returns-clause-clear
returns-clause-clear c =
    let d = c.args.draft.now in
    let marks = c.args.marks.now in
    matched_inputs_clear d marks c.requires.acts
    (matched_outputs_clear d marks c.requires.acts c.requires.clear c.in_default.ensures)
    c.in_default-unmatched.ensures
