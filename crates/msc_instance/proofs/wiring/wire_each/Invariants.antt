use Rattle.msc_instance.specs.Handing.{AreWiredBelow}
use Rattle.msc_instance.proofs.wiring.wire_each.Given as goal

abbrev pub invariant-loop-q : goal.invariant-loop-q
invariant-loop-q l = AreWiredBelow l.fn.queues l.chart l.q l.all
