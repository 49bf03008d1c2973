use Rattle.std.proofs.Common.{map}
use Rattle.std.specs.Map.Iter.{deref}
use Rattle.msc_chart.specs.declared.fault.ChartFault.TheVariants.{UnknownAddress}
use Rattle.msc_chart.specs.Events.{address_of}
use Rattle.msc_chart.specs.Faults.{HoldsAt, IsUnknown, OfEnd}
use Rattle.msc_notes.specs.Events.{act_view}
use Rattle.msc_notes.specs.Putting.{HasPut}
use Rattle.msc_notes.proofs.standing.put_unknown_addresses.Given as goal

abbrev pub invariant-loop-e : goal.invariant-loop-e
invariant-loop-e l =
    HasPut UnknownAddress (HoldsAt (OfEnd (λ x. IsUnknown (map deref l.names.keys) (address_of x))) (map act_view l.events)) l.e l.initial.faults.items l.faults.items
