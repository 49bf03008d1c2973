use Rattle.std.proofs.Common.{take}
use Rattle.msc_notes.specs.Putting.{IsPartWithout}
use Rattle.msc_notes.proofs.other_faults.others.Given as goal

abbrev pub invariant-loop-fault : goal.invariant-loop-fault
invariant-loop-fault l =
    IsPartWithout l.first l.further.items (take l.fault-index l.all)
