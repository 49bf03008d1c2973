use Rattle.std.proofs.Common.{option_copied, subst}
use Rattle.msc_chart.specs.declared.queue.Queues.{Queues}
use Rattle.msc_chart.specs.Drawings.{Drawing}
use Rattle.msc_html.specs.Findings.{PrintsReport}
use Rattle.msc_html.proofs.report.report_chart.Goals as goal

pub returns : goal.returns
returns c =
    let printed = c.in_ok-page.page.bytes.items in
    let ranks = option_copied c.args.ranks in
    let version = c.args.version.now in
    subst (λ (q : Queues). PrintsReport c.args.draft.now c.args.chart.now ranks q version printed)
    c.in_ok-enforced.ensures.queues
    (subst (λ (d : Drawing). PrintsReport c.args.draft.now d ranks c.in_ok-enforced.enforced.queues version printed)
    c.in_ok-enforced.ensures.chart c.in_ok-page.ensures)
