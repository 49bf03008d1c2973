use Rattle.std.proofs.Common.{inl, inr, below_more, arith}
use Rattle.msc_order.proofs.Drawing.{before_later}
use Rattle.msc_ready.proofs.Shared.{before_parts, clash}
use Rattle.msc_ready.proofs.ready.Ready.least_first.Goals as goal

pub loop-g-init : goal.loop-g-init
loop-g-init c = λ x below s.
    let d = c.args.self.now.chart in
    let parts = before_parts d.events x c.args.h s.drawn in
    let here = rw c.chart-chart.ensures at c.instance_of.ensures in
    let range = rw c.chart-chart.ensures at c.line-g.ensures.range in
    let within = (range x parts.0).0 (omega (arith, parts.2, here)) in
    absurd (omega (arith, below, within.0))

pub returns-then-is_blocked_pair : goal.returns-then-is_blocked_pair
returns-then-is_blocked_pair c = inl (record { itself = c.is_blocked_pair.ensures.exact.0 c.if-is_blocked_pair.true; none_below = c.loop-g.invariant })

pub loop-g-preserved : goal.loop-g-preserved
loop-g-preserved c = below_more _ _ c.loop-g.invariant (λ s. clash (c.is_blocked_pair.ensures.exact.1 s) c.if-is_blocked_pair.false)

pub returns : goal.returns
returns c = inr (
  c.events.ensures,
  λ x s.
      let above = before_later c.args.self.now.chart.events c.facts.ensures.chart.in_text_order x c.args.h s.drawn in
      let last = c.loop-g-test.false in
      c.loop-g.invariant x (omega (arith, above, last)) s,
)
