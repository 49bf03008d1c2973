use Rattle.std.proofs.Common.{refl}
use Rattle.msc_answer.proofs.Answered.{refused_so}
use Rattle.msc_answer.specs.Scenarios.{BeginsAll, PrintsAll, PrintsCounted}
use Rattle.msc_answer.proofs.scenarios.tell_all.Goals as goal

pub returns-in-Ok : goal.returns-in-Ok
returns-in-Ok g c =
    let said = c.in-Ok.ensures in
    (said.0, (c.in-Ok.one, refl, said.1), said.2)

pub returns-in-Err : goal.returns-in-Err
returns-in-Err g c =
    let x = c.args.words in let t = c.args.told in let scenarios = c.args.scenarios.now in
    refused_so g.O.Write.contents (PrintsCounted x.quiet x.check_args t scenarios) (PrintsAll x.quiet x.check_args t scenarios)
    (BeginsAll x.quiet x.check_args t scenarios) (BeginsAll x.quiet x.check_args t scenarios) (λ r. ⊥) (λ r. ⊥)
    (λ printed begins. begins) (λ r said. said) c.in-Err.refusal _ _ c.in-Err.ensures
