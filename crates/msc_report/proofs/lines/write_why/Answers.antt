use Rattle.std.proofs.lemmas.Result.{IfOk-weaker}
use Rattle.msc_print.proofs.KnownBytes.{Appends-append}
use Rattle.msc_report.proofs.lines.write_why.Goals as goal

pub returns : goal.returns
returns g c =
    IfOk-weaker c.write_placed_pair.result _ _
    (λ u wrote. Appends-append _ _ _ _ _ c.in_ok-write_kind.ensures wrote) c.write_placed_pair.ensures
