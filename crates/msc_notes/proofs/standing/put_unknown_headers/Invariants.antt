use Rattle.std.proofs.Common.{map}
use Rattle.std.specs.Map.Iter.{deref}
use Rattle.msc_chart.specs.declared.fault.ChartFault.TheVariants.{HeaderWithoutBody}
use Rattle.msc_chart.specs.Faults.{HoldsAt, IsUnknown}
use Rattle.msc_notes.specs.Putting.{HasPut, decl_names}
use Rattle.msc_notes.proofs.standing.put_unknown_headers.Given as goal

abbrev pub invariant-loop-k : goal.invariant-loop-k
invariant-loop-k l =
    HasPut HeaderWithoutBody (HoldsAt (IsUnknown (map deref l.names.keys)) (decl_names l.header)) l.k l.initial.faults.items l.faults.items
