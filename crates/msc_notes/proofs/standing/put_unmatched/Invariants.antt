use Rattle.std.proofs.Common.{map}
use Rattle.msc_chart.specs.Faults.{HoldsAt, IsUnmatched, OfEnd}
use Rattle.msc_notes.specs.Events.{act_view}
use Rattle.msc_notes.specs.Putting.{HasPut, unmatched_fault}
use Rattle.msc_notes.proofs.standing.put_unmatched.Given as goal

abbrev pub invariant-loop-e : goal.invariant-loop-e
invariant-loop-e l =
    HasPut (unmatched_fault l.sends) (HoldsAt (OfEnd (IsUnmatched l.sends (map act_view l.events))) (map act_view l.events)) l.e l.initial.faults.items l.faults.items
