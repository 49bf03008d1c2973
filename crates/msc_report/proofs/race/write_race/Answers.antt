use Rattle.std.proofs.lemmas.Result.{on_ok_weaker}
use Rattle.msc_print.proofs.KnownBytes.{Appends-append}
use Rattle.msc_report.proofs.race.write_race.Goals as goal

pub returns : goal.returns
returns g c =
    on_ok_weaker c.write_shown.result
    (λ last. Appends-append _ _ _ _ _ c.in_ok-write_pair_place.ensures
    (Appends-append _ _ _ _ _ c.in_ok-write_all.ensures.bytes
    (Appends-append _ _ _ _ _ c.in_ok-write_events.ensures last)))
    c.write_shown.ensures
