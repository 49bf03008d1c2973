use Rattle.std.proofs.Common.{refl, ap}
use Rattle.msc_chart.specs.Charts.{partner}
use Rattle.msc_chart.proofs.Readers.{seen_at, seen_accepted}
use Rattle.msc_chart.proofs.chart.Chart.other_end.Goals as goal

pub returns : goal.returns
unfolding partner
returns c =
    let same = ap (λ v. v.partner) (seen_at _ _ c.self.view_is _ c.args.e _ refl c.requires c.index.ensures) in
    record {
      value = same;
      known = rw same ((seen_accepted _ c.args.self.now c.self.view_is c.self.invariant.accepted).matched.in_range c.args.e c.requires);
    }
