use Rattle.std.proofs.Common.{arith}
use Rattle.msc_chart.proofs.ListLemmas.{clash}
use Rattle.msc_chart.proofs.Segments.{segment_past}
use Rattle.msc_chart.proofs.chart.Chart.segment_end.Goals as goal

pub returns-then-not-share_segment : goal.returns-then-not-share_segment
returns-then-not-share_segment c =
    let below = c.loop-f-test.true in
    let count = c.events-events.ensures.number in
    record {
      later = omega arith;
      within = omega (arith, below, count);
      together = c.loop-f.invariant;
      past = segment_past c.args.self.now.events c.events-events.ensures.accepted.in_text_order c.args.e c.loop-f.f (omega arith) (omega (arith, below, count))
          (λ both. clash (c.share_segment.ensures.1 both) c.if-not-share_segment.true);
    }
