use Rattle.msc_instance.specs.Active.{IsClosedFrom}
use Rattle.msc_instance.proofs.Zipped.{ZipsUpTo}
use Rattle.msc_instance.proofs.outlets.close_all.Given as goal

abbrev pub invariant-loop-outlet : goal.invariant-loop-outlet
invariant-loop-outlet l = ZipsUpTo IsClosedFrom l.outlet-index l.fn.outlets l.outlets
