use Rattle.std.proofs.Common.{rules}
use Rattle.std.proofs.lemmas.Result.{on_ok_weaker}
use Rattle.msc_report.specs.Links.{queues_text}
use Rattle.msc_report.specs.Verdicts.{name_line}
use Rattle.msc_print.proofs.KnownBytes.{Appends-append}
use Rattle.msc_report.proofs.verdict.write_lines.Goals as goal

pub returns : goal.returns
returns g c =
    on_ok_weaker c.write_queues.result
    (λ last. Appends-append _ _ _ (name_line c.args.chart.now) (queues_text c.args.chart.now c.args.queues.now) (search rules depth 3 fits 100) last)
    c.write_queues.ensures
