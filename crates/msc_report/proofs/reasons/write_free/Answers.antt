use Rattle.std.proofs.lemmas.Result.{IfOk-weaker}
use Rattle.msc_print.proofs.KnownBytes.{Appends-append}
use Rattle.msc_report.proofs.reasons.write_free.Goals as goal

pub returns-in_ok-write_at-in-Some : goal.returns-in_ok-write_at-in-Some
returns-in_ok-write_at-in-Some g c =
    rw c.in-Some.is (IfOk-weaker c.write_why.result _ _
    (λ u wrote. Appends-append _ _ _ _ _ c.in_ok-write_race-in-Some.ensures (Appends-append _ _ _ _ _ c.in_ok-write_at-in-Some.ensures wrote)) c.write_why.ensures)
