use Rattle.std.proofs.lemmas.Result.{IfOk-weaker}
use Rattle.msc_print.proofs.KnownBytes.{Appends-append}
use Rattle.msc_report.proofs.reasons.write_reason.Goals as goal

pub returns-in_ok-write_placed_pair-in-Enforced : goal.returns-in_ok-write_placed_pair-in-Enforced
returns-in_ok-write_placed_pair-in-Enforced g c =
    rw c.in-Enforced.is (IfOk-weaker c.write_shown.result _ _
    (λ u wrote. Appends-append _ _ _ _ _ c.in_ok-write_placed_pair-in-Enforced.ensures wrote) c.write_shown.ensures)

pub returns-in_ok-write_late-in-Free : goal.returns-in_ok-write_late-in-Free
returns-in_ok-write_late-in-Free g c =
    rw c.in-Free.is (IfOk-weaker c.write_run_in.result _ _
    (λ u wrote. Appends-append _ _ _ _ _ c.in_ok-write_free-in-Free.ensures
    (Appends-append _ _ _ _ _ c.in_ok-write_late-in-Free.ensures wrote))
    (rw c.as_slice.ensures at c.write_run_in.ensures))
