use Rattle.std.proofs.Common.{arith}
use Rattle.msc_reason.proofs.Walking.{drawn_range}
use Rattle.msc_reason.proofs.chaining.last_link.Goals as goal

pub returns-then-reaches : goal.returns-then-reaches
returns-then-reaches c =
    let segment = rw c.chart-chart.ensures at c.segment_end-start.ensures in
    let line = rw c.chart-chart.ensures at c.line_end-end.ensures in (
      (
        (let less = c.loop-k-test.true in let many = c.saturating_sub-k-end.ensures in
            segment.past _ (omega (arith, less, many)) (omega (arith, less, many, line.within))
            (line.together _ (omega (arith, less, many, segment.later)) (omega (arith, less, many)))),
        c.reaches.ensures.0 c.if-reaches.true,
      ),
      λ w later link.
          let range = drawn_range c.args.enforced.now.chart.events c.facts.ensures.chart.in_text_order c.args.x c.segment_end-start.result c.line_end-end.result w
          segment line link.0 in
          c.loop-k.invariant w (omega (arith, range.1, later)) range.1 link.1,
    )

pub returns : goal.returns
returns c = λ z link.
    let segment = rw c.chart-chart.ensures at c.segment_end-start.ensures in
    let line = rw c.chart-chart.ensures at c.line_end-end.ensures in
    let range = drawn_range c.args.enforced.now.chart.events c.facts.ensures.chart.in_text_order c.args.x c.segment_end-start.result c.line_end-end.result z
    segment line link.0 in
    c.loop-k.invariant z (omega (arith, range.0, range.1, c.saturating_sub-k-end.ensures, c.loop-k-test.false)) range.1 link.1
