use Rattle.std.proofs.Common.{◌<◌, ◌*◌, length, subst}
use Rattle.msc_chart.specs.Drawings.{Drawing}
use Rattle.msc_chart.proofs.RoundEvents.{in_events}
use Rattle.msc_report.proofs.rounds.RoundNames.output.Goals as goal

pub returns-clause-known : goal.returns-clause-known
returns-clause-known c =
    let d = c.args.self.now.chart.now in
    in_events 2 (length d.messages) d.events c.number.result
    (subst (λ (x : Drawing). c.number.result < 2 * length x.events) c.args.self.now.same c.number.ensures.within)
