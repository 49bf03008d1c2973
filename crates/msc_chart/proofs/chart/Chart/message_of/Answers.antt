use Rattle.std.proofs.Common.{refl, ap}
use Rattle.msc_chart.specs.Charts.{message}
use Rattle.msc_chart.proofs.Readers.{seen_at, seen_accepted}
use Rattle.msc_chart.proofs.chart.Chart.message_of.Goals as goal

pub returns : goal.returns
unfolding message
returns c =
    let same = ap (λ v. v.subject) (seen_at _ _ c.self.view_is _ c.args.e _ refl c.requires.known c.index.ensures) in
    record {
      value = same;
      known = rw same ((seen_accepted _ c.args.self.now c.self.view_is c.self.invariant.accepted).has_messages.known c.args.e c.requires.known c.requires.message);
    }
