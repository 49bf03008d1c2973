use Rattle.std.proofs.Common.{◌∙◌}
use Rattle.msc_ready.proofs.beginning.next_front.Goals as goal

pub returns-then-instance_of-i : goal.returns-then-instance_of-i
returns-then-instance_of-i c =
    let here = rw c.chart-chart.ensures at c.instance_of.ensures in
    let auto = c.loop-f.auto in
    record {
      later = auto.f;
      between = λ y low high inside. (c.loop-f.invariant y low high).1;
      itself = λ inside same. absurd (c.if-instance_of-i.true (here ∙ same));
      on_line = λ y low high inside. (c.loop-f.invariant y low high).0;
    }
