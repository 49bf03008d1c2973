use Rattle.std.proofs.Common.{ap, sym, ◌∙◌}
use Rattle.msc_picture.proofs.Parts.{act_of_output, act_of_input}
use Rattle.msc_picture.specs.declared.scene.Act.TheVariants.{Sends, Takes}
use Rattle.msc_picture.proofs.part.message_act.Goals as goal

pub returns-then-is_output : goal.returns-then-is_output
returns-then-is_output c =
    ap Sends c.message_of-m.ensures.value
    ∙ act_of_output c.args.chart.now c.args.e (sym c.is_output.ensures ∙ c.if-is_output.true)

pub returns : goal.returns
returns c =
    ap Takes c.message_of-m.ensures.value
    ∙ act_of_input c.args.chart.now c.args.e c.requires.known
    (sym c.is_output.ensures ∙ c.if-is_output.false) c.requires.message
