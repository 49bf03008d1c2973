use Rattle.msc_chart.specs.Sortings.{NoneLeftBelow}
use Rattle.msc_chart.proofs.linear.first_left.Given as goal

abbrev pub invariant-loop-x : goal.invariant-loop-x
invariant-loop-x l = NoneLeftBelow l.events l.marks l.i l.x
