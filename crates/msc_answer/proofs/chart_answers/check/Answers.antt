use Rattle.std.proofs.Common.{ap, ◌∙◌}
use Rattle.msc_answer.proofs.Answered.{races_refused}
use Rattle.msc_answer.specs.Ending.{ended_by}
use Rattle.msc_answer.proofs.chart_answers.check.Goals as goal

pub returns-in-Ok : goal.returns-in-Ok
returns-in-Ok g c =
    let said = c.in-Ok.ensures in
    (said.0, (c.in-Ok.one, c.ended_by.ensures ∙ ap ended_by c.passes.ensures, said.1), said.2)

pub returns-in-Err : goal.returns-in-Err
returns-in-Err g c =
    races_refused g.O.Write.contents c.args.check_args c.args.file.now c.args.source.now c.in-Err.refusal _ _ c.in-Err.ensures
