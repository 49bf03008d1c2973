use Rattle.std.proofs.Common.{[], length, ap, arith}
use Rattle.msc_ready.proofs.Begun.Fronts.{first_front, fronts_more}
use Rattle.msc_ready.proofs.beginning.first_events.Goals as goal

pub loop-i-init : goal.loop-i-init
loop-i-init c = record { each = ap length c.new-fronts.ensures.items; front = λ i below. absurd (omega (arith, below)) }

pub loop-i-preserved : goal.loop-i-preserved
loop-i-preserved c =
    let d = c.args.ready.now.chart in
    let front = first_front d c.loop-i.i c.line.result.0 c.line.result.1 (rw c.chart-chart.ensures at c.line.ensures.range) in
    rw c.in_ok-push.ensures.items (fronts_more d [] c.loop-i.fronts.items c.loop-i.i c.line.result.0 c.loop-i.invariant front)

pub returns : goal.returns
returns c =
    let last = c.loop-i-test.false in
    let auto = c.loop-i.auto in
    let number = rw c.chart-chart.ensures at c.instances-i-end.ensures.number in
    let done = c.loop-i.invariant.each in
    record {
      each = omega (arith, done, last, auto, number);
      front = λ i below. c.loop-i.invariant.front i (omega (arith, below, last, auto, number));
    }
