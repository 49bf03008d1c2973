use Rattle.std.proofs.Common.{reverse}
use Rattle.msc_instance.specs.Handing.{IsHandingOut}
use Rattle.msc_instance.proofs.wiring.hand_out.Given as goal

abbrev pub invariant-loop-i : goal.invariant-loop-i
invariant-loop-i l = IsHandingOut l.fn.inlet.queue l.q l.quotas l.fn.all l.all
    (reverse l.outlets.items) l.i
