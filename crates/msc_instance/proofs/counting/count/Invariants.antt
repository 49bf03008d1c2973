use Rattle.msc_instance.specs.Handing.{AreCounted, AreReceivers}
use Rattle.msc_instance.proofs.counting.count.Given as goal

abbrev pub invariant-loop-m : goal.invariant-loop-m
invariant-loop-m l = record {
  counts : AreCounted l.queues l.chart l.m l.counts;
  receivers : AreReceivers l.queues l.chart l.m l.receivers;
}
