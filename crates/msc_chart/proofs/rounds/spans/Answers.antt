use Rattle.msc_chart.specs.Spans.{span_at}
use Rattle.msc_chart.proofs.RoundParts.{range_grown, same_span}
use Rattle.msc_chart.proofs.rounds.spans.Goals as goal

pub loop-i-preserved : goal.loop-i-preserved
loop-i-preserved c =
    range_grown (span_at c.args.chart.now.events) c.loop-i.i _ _ _ c.in_ok-push.ensures.items c.loop-i.invariant
    (same_span c.line-first.ensures.first c.line-first.ensures.past_last)
