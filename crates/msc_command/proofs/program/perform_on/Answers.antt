use Rattle.std.proofs.Common.{◌≡◌, true, false, Err}
use Rattle.msc_report.specs.Refusals.{of_reading}
use Rattle.msc_source.specs.declared.fault.ReadFault.TheVariants.{Device}
use Rattle.msc_answer.proofs.Answered.{ends_so, unread}
use Rattle.msc_answer.specs.declared.ending.Refusal.TheVariants as refusals
use Rattle.msc_command.proofs.program.perform_on.Goals as goal

-- a test that failed did not pass
differ : false ≡ true → ⊥
differ same = cc

pub returns-then-eq-clause-performed : goal.returns-then-eq-clause-performed
returns-then-eq-clause-performed g c =
    ends_so g.O.Write.contents c.args.request.task c.args.request.file.now _ _ c.perform.result _ _ (λ text read same. read) c.perform.ensures

pub returns-in-Ok-clause-performed : goal.returns-in-Ok-clause-performed
returns-in-Ok-clause-performed g c =
    ends_so g.O.Write.contents c.args.request.task c.args.request.file.now _ _ c.perform-in-Ok.result _ _
    (λ text read same. absurd (differ (rw same at c.if-eq.ensures))) c.perform-in-Ok.ensures

pub returns-in-Err-clause-performed : goal.returns-in-Err-clause-performed
returns-in-Err-clause-performed g c =
    let fault = Device c.in-Err.error in (
      Err (refusals.Fault (of_reading fault)),
      c.end_unread_task.ensures.status,
      unread g.O.Write.contents c.args.request.task c.args.request.file.now _ fault _ _ c.end_unread_task.ensures.told,
    )
