use Rattle.std.proofs.Common.{◌∙◌, sym}
use Rattle.msc_answer.proofs.SurveyLemmas.{told_in}
use Rattle.msc_answer.proofs.scenarios.tell_in.Goals as goal

pub returns : goal.returns
returns g c =
    told_in g.O.Write.contents c.args.check_args c.args.told c.args.marks c.args.scenarios.now c.check_of-check.result c.check_of-check.ensures c.args.format c.requires.format _
    (c.as_slice-top.ensures.value ∙ (c.in_ok-top.ensures ∙ sym c.requires.top)) _ c.args.output.now _ c.judge_scenarios.ensures
