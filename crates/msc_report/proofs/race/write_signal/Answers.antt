use Rattle.std.proofs.lemmas.Result.{on_ok_weaker}
use Rattle.msc_print.proofs.KnownBytes.{Appends-append}
use Rattle.msc_report.proofs.race.write_signal.Goals as goal

pub returns : goal.returns
returns g c =
    rw (← c.message_of.ensures.value, ← c.address_of.ensures.value)
    (on_ok_weaker c.write_instance.result
    (λ last. Appends-append _ _ _ _ _ c.in_ok-write_all.ensures.bytes
    (Appends-append _ _ _ _ _ c.in_ok-write_message.ensures (Appends-append _ _ _ _ _ c.in_ok-write_all-2.ensures.bytes last)))
    c.write_instance.ensures)
