use Rattle.std.proofs.lemmas.Result.{IfOk-weaker}
use Rattle.msc_print.proofs.KnownBytes.{Appends-append}
use Rattle.msc_report.proofs.instance.write_instance_fault.Goals as goal

pub returns : goal.returns
returns g c =
    IfOk-weaker c.write_all-2.result _ _ (λ u wrote. Appends-append _ _ _ _ _ c.in_ok-write_all.ensures.bytes
    (Appends-append _ _ _ _ _ c.in_ok-write_file.ensures wrote)) c.write_all-2.ensures.bytes
