use Rattle.std.proofs.Common.{◌<◌, ◌*◌, length, sym, subst}
use Rattle.msc_chart.specs.Drawings.{Drawing}
use Rattle.msc_chart.proofs.RoundEvents.{events_in}
use Rattle.msc_report.proofs.rounds.RoundNames.place.Goals as goal

pub place-requires : goal.place-requires
place-requires c =
    let d = c.args.self.now.chart.now in
    record {
      known = subst (λ (x : Drawing). c.args.k < 2 * length x.events) (sym c.args.self.now.same)
          (events_in 2 (length d.messages) d.events c.args.k c.requires);
    }
