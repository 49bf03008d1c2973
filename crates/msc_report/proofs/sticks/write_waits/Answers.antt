use Rattle.std.proofs.lemmas.Result.{IfOk-weaker}
use Rattle.msc_print.proofs.KnownBytes.{Appends-append}
use Rattle.msc_report.proofs.sticks.write_waits.Goals as goal

pub returns : goal.returns
returns g c =
    IfOk-weaker c.write_all-3.result _ _ (λ u wrote. Appends-append _ _ _ _ _ c.in_ok-write_owner.ensures
    (Appends-append _ _ _ _ _ c.in_ok-write_all.ensures.bytes (Appends-append _ _ _ _ _ c.in_ok-write_coming.ensures
    (Appends-append _ _ _ _ _ c.in_ok-write_all-2.ensures.bytes (Appends-append _ _ _ _ _ c.in_ok-write_coming-2.ensures wrote))))) c.write_all-3.ensures.bytes
