use Rattle.std.proofs.lemmas.Result.{IfOk-weaker}
use Rattle.msc_print.proofs.KnownBytes.{Appends-append}
use Rattle.msc_diagram.proofs.fault.write_entity.Goals as goal

pub returns : goal.returns
returns g c =
    IfOk-weaker c.write_unsupported.result _ _ (λ u last. Appends-append _ _ _ _ _ c.in_ok-write_all.ensures.bytes
    (Appends-append _ _ _ _ _ c.in_ok-write.ensures.bytes (Appends-append _ _ _ _ _ c.in_ok-write_all-2.ensures.bytes last))) c.write_unsupported.ensures
