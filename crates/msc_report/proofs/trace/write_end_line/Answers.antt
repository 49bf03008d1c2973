use Rattle.std.proofs.lemmas.Result.{on_ok_weaker}
use Rattle.msc_print.proofs.KnownBytes.{Appends-append}
use Rattle.msc_report.proofs.trace.write_end_line.Goals as goal

pub returns : goal.returns
returns g c =
    on_ok_weaker c.write_all-3.result
    (λ last. Appends-append _ _ _ _ _ c.in_ok-write_all.ensures.bytes
    (Appends-append _ _ _ _ _ c.in_ok-write_instance.ensures
    (Appends-append _ _ _ _ _ c.in_ok-write_all-2.ensures.bytes (Appends-append _ _ _ _ _ c.in_ok-write_end.ensures last))))
    c.write_all-3.ensures.bytes
