use Rattle.std.proofs.lemmas.Result.{IfOk-weaker}
use Rattle.msc_print.proofs.KnownBytes.{Appends-append}
use Rattle.msc_report.proofs.reasons.write_explained.Goals as goal

pub returns : goal.returns
returns g c =
    IfOk-weaker c.write_reason.result _ _ (λ u wrote. Appends-append _ _ _ _ _ c.in_ok-write_name_line.ensures
    (Appends-append _ _ _ _ _ c.in_ok-write_queues.ensures wrote)) c.write_reason.ensures
