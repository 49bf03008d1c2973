use Rattle.std.proofs.Common.{◌<◌, ◌≤◌, length, get_or, take}
use Rattle.msc_draw.specs.Marking.{HoldsMarking}
use Rattle.msc_draw.proofs.numbering.bars_of.Given as goal

-- the races of the events so far are noted, and the next one is of a later event
abbrev pub invariant-loop-e : goal.invariant-loop-e
invariant-loop-e l = record {
  within : l.start ≤ length l.races;
  held : HoldsMarking l.chart.events l.e (take l.start l.races) l.marking;
  left : l.start < length l.races → l.e ≤ (get_or l.races l.start (0, 0)).0;
}
