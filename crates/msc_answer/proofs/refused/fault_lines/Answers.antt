use Rattle.std.proofs.Common.{None, refl, ap}
use Rattle.std.proofs.lemmas.Result.{IfOk-weaker}
use Rattle.msc_answer.specs.declared.ending.Refusal.TheVariants as refusals
use Rattle.msc_answer.proofs.BareLines.{bare_text, stands_as}
use Rattle.msc_answer.proofs.refused.fault_lines.Goals as goal

pub returns-in-NotStarted : goal.returns-in-NotStarted
returns-in-NotStarted c =
    IfOk-weaker c.bare_lines.result _ _
    (λ page begun. bare_text c.args.file.now c.args.text.now (refusals.Fault c.args.fault) None _ (stands_as c.args.text.now None (refusals.Fault c.args.fault) _ (ap refusals.Fault c.in-NotStarted.is) (λ p at. (None, refl, at))) begun)
    c.bare_lines.ensures

pub returns-in-Memory : goal.returns-in-Memory
returns-in-Memory c =
    IfOk-weaker c.bare_lines-in-Memory.result _ _
    (λ page begun. bare_text c.args.file.now c.args.text.now (refusals.Fault c.args.fault) None _ (stands_as c.args.text.now None (refusals.Fault c.args.fault) _ (ap refusals.Fault c.in-Memory.is) (λ p at. (None, refl, at))) begun)
    c.bare_lines-in-Memory.ensures

pub returns-in-Device : goal.returns-in-Device
returns-in-Device c =
    IfOk-weaker c.bare_lines-in-Device.result _ _
    (λ page begun. bare_text c.args.file.now c.args.text.now (refusals.Fault c.args.fault) None _ (stands_as c.args.text.now None (refusals.Fault c.args.fault) _ (ap refusals.Fault c.in-Device.is) (λ p at. (None, refl, at))) begun)
    c.bare_lines-in-Device.ensures
