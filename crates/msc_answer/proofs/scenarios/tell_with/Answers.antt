use Rattle.std.proofs.Common.{[], refl}
use Rattle.msc_answer.proofs.SurveyLemmas.{full_is, told_in}
use Rattle.msc_answer.proofs.scenarios.tell_with.Goals as goal

pub returns : goal.returns
returns g c =
    let k = c.args.check_args in let t = c.args.told in let ss = c.args.scenarios.now in let s = c.args.first.now in
    told_in g.O.Write.contents k t c.args.marks ss c.check_of-check.result c.check_of-check.ensures _
    (full_is k t ss s c.requires.first c.requires.format _ (record {
      words = c.args.shown.now;
      are = c.requires.shown;
      lent = c.in_ok-lent.ensures;
      diagram = refl;
      text = refl;
      file = c.names.ensures.file;
      queues_are = c.names.ensures.queues;
      colours_are = c.names.ensures.colours;
      following_is = refl;
    }))
    [] refl _ c.args.output.now _ c.judge_scenarios.ensures
