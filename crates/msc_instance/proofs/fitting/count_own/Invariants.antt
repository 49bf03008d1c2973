use Rattle.msc_chart.specs.Drawings.{receiver_of, sender_of}
use Rattle.msc_instance.specs.Fitting.{AreCountsOf}
use Rattle.msc_instance.proofs.fitting.count_own.Given as goal

abbrev pub invariant-loop-m : goal.invariant-loop-m
invariant-loop-m l = record {
  sent : AreCountsOf (sender_of l.chart) l.queues l.chart l.fn.i l.m l.sent;
  taken : AreCountsOf (receiver_of l.chart) l.queues l.chart l.fn.i l.m l.taken;
}
