use Rattle.std.proofs.Common.{◌↔◌, ℕ, List, map}
use Rattle.std.specs.Map.Iter.{deref}
use Rattle.msc_chart.specs.declared.fault.ChartFault.TheVariants.{TwiceInstance}
use Rattle.msc_chart.specs.Lists.{Occurs}
use Rattle.msc_notes.specs.Putting.{HasPut, IsFewRepeats, section_names}
use Rattle.msc_notes.proofs.Sets.{Earlier}
use Rattle.msc_notes.proofs.standing.put_repeated_names.Given as goal

abbrev pub invariant-loop-i : goal.invariant-loop-i
invariant-loop-i l = record {
  faults : HasPut TwiceInstance (IsFewRepeats (section_names l.sections)) l.i l.initial.faults.items l.faults.items;
  names : (name : List ℕ) → Occurs (map deref l.names.keys) name ↔ Earlier (section_names l.sections) l.i name;
}
