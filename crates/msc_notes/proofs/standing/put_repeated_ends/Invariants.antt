use Rattle.std.proofs.Common.{◌↔◌, map}
use Rattle.msc_chart.specs.declared.fault.ChartFault.TheVariants.{TwiceEvent}
use Rattle.msc_chart.specs.Events.{MessageEnd}
use Rattle.msc_chart.specs.Events.Act.{OfMessage}
use Rattle.msc_chart.specs.Faults.{IsTwice}
use Rattle.msc_chart.specs.Lists.{Occurs}
use Rattle.msc_notes.specs.Events.{act_view, end_view}
use Rattle.msc_notes.specs.Putting.{HasPut}
use Rattle.msc_notes.proofs.Sets.{Earlier}
use Rattle.msc_notes.proofs.standing.put_repeated_ends.Given as goal

abbrev pub invariant-loop-e : goal.invariant-loop-e
invariant-loop-e l = record {
  faults : HasPut TwiceEvent (IsTwice (map act_view l.events)) l.e l.initial.faults.items l.faults.items;
  ends : (x : MessageEnd) → Occurs (map end_view l.ends.keys) x ↔ Earlier (map act_view l.events) l.e (OfMessage x);
}
