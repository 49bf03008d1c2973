use Rattle.std.proofs.Common.{ap, ◌∙◌}
use Rattle.std.proofs.Common.{map}
use Rattle.msc_chart.specs.Charts.{is_local}
use Rattle.msc_chart.specs.Drawings.{label_of}
use Rattle.msc_picture.specs.Scenes.{shown_byte}
use Rattle.msc_picture.specs.declared.scene.Act.TheVariants.{Does}
use Rattle.msc_picture.proofs.Parts.{act_of_action, none_where, some_where}
use Rattle.msc_picture.proofs.part.act.Goals as goal

pub message_act-requires-clause-message : goal.message_act-requires-clause-message
message_act-requires-clause-message c =
    none_where (is_local c.args.chart.now.events c.args.e) (label_of c.args.chart.now c.args.e)
    c.in-None.ensures

pub returns-in_ok-text-in-Some : goal.returns-in_ok-text-in-Some
returns-in_ok-text-in-Some c =
    let there = some_where (is_local c.args.chart.now.events c.args.e)
    (label_of c.args.chart.now c.args.e) _ c.in-Some.ensures in
    ap Does (c.in_ok-text-in-Some.ensures ∙ ap (map shown_byte) there.1)
    ∙ act_of_action c.args.chart.now c.args.e there.0
