use Rattle.std.proofs.Common.{[]}
use Rattle.msc_ready.proofs.Begun.Fronts.{AreFrontsBelow}
use Rattle.msc_ready.proofs.beginning.first_events.Given as goal

abbrev pub invariant-loop-i : goal.invariant-loop-i
invariant-loop-i l = AreFrontsBelow l.ready.chart [] l.fronts.items l.i
