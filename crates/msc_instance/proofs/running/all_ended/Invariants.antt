use Rattle.std.proofs.Common.{◌≡◌, ◌<◌, ℕ, get_or}
use Rattle.msc_fifo.specs.Ends.{unended_in}
use Rattle.msc_execution.specs.Roles.{NumberedInlet}
use Rattle.msc_instance.proofs.running.all_ended.Given as goal

abbrev pub invariant-loop-inlet : goal.invariant-loop-inlet
invariant-loop-inlet l = (k : ℕ) (n : NumberedInlet) → k < l.inlet-index
    → unended_in (get_or l.inlets k n).1 ≡ 0
