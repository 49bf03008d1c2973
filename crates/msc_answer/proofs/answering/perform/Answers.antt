use Rattle.std.proofs.Common.{Ok, Err, inl, refl, subst, ℕ, List}
use Rattle.msc_report.specs.Refusals.{of_reading}
use Rattle.msc_answer.proofs.Answered.{unread}
use Rattle.msc_answer.specs.Answering.{Delivers}
use Rattle.msc_answer.specs.declared.ending.Refusal.TheVariants as refusals
use Rattle.msc_answer.proofs.answering.perform.Goals as goal

pub returns-in-Err : goal.returns-in-Err
returns-in-Err g c = (
  Err (refusals.Fault (of_reading c.in-Err.fault)),
  c.end_unread_task.ensures.status,
  unread g.O.Write.contents c.args.request.task c.args.request.file.now _ c.in-Err.fault _ _ c.end_unread_task.ensures.told,
)

pub returns-in-Ok-deliver : goal.returns-in-Ok-deliver
returns-in-Ok-deliver g c =
    let done = subst (λ (text : List ℕ). Delivers g.O.Write.contents c.args.request.task c.args.request.file.now text (Ok c.in-Ok-deliver.status) c.args.output.now c.deliver.new.output)
    c.as_slice.ensures.value c.in-Ok-deliver.ensures in
    (Ok c.in-Ok-deliver.status, refl, inl (c.in-Ok.text.items, c.in-Ok.ensures.rest, done))

pub returns : goal.returns
returns g c =
    let done = subst (λ (text : List ℕ). Delivers g.O.Write.contents c.args.request.task c.args.request.file.now text (Err c.in-Err-deliver.refusal) c.args.output.now c.deliver.new.output)
    c.as_slice.ensures.value c.in-Err-deliver.ensures in
    (Err c.in-Err-deliver.refusal, c.end_told.ensures, inl (c.in-Ok.text.items, c.in-Ok.ensures.rest, done))
