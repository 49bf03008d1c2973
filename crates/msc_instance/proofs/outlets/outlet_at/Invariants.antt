use Rattle.std.proofs.Common.{◌-◌}
use Rattle.msc_execution.specs.Roles.{NumberedOutlet}
use Rattle.msc_instance.proofs.Finding.{IsInRange}
use Rattle.msc_instance.proofs.outlets.outlet_at.Given as goal

abbrev pub invariant-loop-high : goal.invariant-loop-high
invariant-loop-high l = IsInRange (λ (o : NumberedOutlet). o.0) l.outlets l.queue l.low l.high

abbrev pub decreases-loop-high : goal.decreases-loop-high
decreases-loop-high l = l.high - l.low
