use Rattle.std.proofs.Common.{arith}
use Rattle.msc_chart.specs.Charts.{before}
use Rattle.bit_rows.proofs.Bits.{by_test, clash}
use Rattle.msc_order.proofs.Drawing.{none_next, is_next}
use Rattle.msc_order.proofs.segments.next_segment_events.Goals as goal
use Rattle.msc_order.proofs.segments.next_segment_events.Goals.{then-start-events-via-then-start-events, then-start-events-via-else-start-events+then-not-before}

pub returns-then-start-events : goal.returns-then-start-events
returns-then-start-events c =
    let events = c.args.chart.now.events in
    let text = c.events.ensures.accepted.in_text_order in
    let start = c.segment_end-start.result in
    elim c.then-start-events.branch [
      | then-start-events-via-then-start-events w ↦
          none_next events text c.args.e start c.segment_end-start.ensures (λ inside. let n = c.events.ensures.number in let out = w.if-start-events.true in absurd (omega (arith, inside, n, out)))
      | then-start-events-via-else-start-events+then-not-before w ↦
          none_next events text c.args.e start c.segment_end-start.ensures
          (λ inside. by_test (before events c.args.e start) (λ h. clash (w.before-else-start-events.ensures.1 h) w.if-not-before.true) (λ h. h))
    ]

pub returns : goal.returns
returns c =
    is_next c.args.chart.now.events c.events.ensures.accepted.in_text_order c.args.e c.segment_end-start.result c.segment_end.result
    c.segment_end-start.ensures (c.before-else-start-events.ensures.0 c.if-not-before.false) c.segment_end.ensures
