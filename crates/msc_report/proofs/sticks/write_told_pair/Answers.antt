use Rattle.std.proofs.lemmas.Result.{IfOk-weaker}
use Rattle.msc_print.proofs.KnownBytes.{Appends-append}
use Rattle.msc_report.proofs.sticks.write_told_pair.Goals as goal

pub returns : goal.returns
returns g c =
    IfOk-weaker c.write_at.result _ _ (λ u wrote. Appends-append _ _ _ _ _ c.in_ok-write_pair_place.ensures
    (Appends-append _ _ _ _ _ c.in_ok-write_all.ensures.bytes (Appends-append _ _ _ _ _ c.in_ok-write_events.ensures wrote))) c.write_at.ensures
