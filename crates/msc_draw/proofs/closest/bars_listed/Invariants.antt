use Rattle.std.specs.List.{flat_map, range_with_len}
use Rattle.msc_race.specs.Walks.{HasReached}
use Rattle.msc_draw.specs.Listed.{listed_at}
use Rattle.msc_draw.specs.Marking.{HoldsMarking}
use Rattle.msc_draw.proofs.closest.bars_listed.Given as goal

-- the walk is so far, and the races of the events so far are noted
abbrev pub invariant-loop-e : goal.invariant-loop-e
invariant-loop-e l = record {
  reached : HasReached l.listing.judged.chart.events l.e l.stream.walk;
  held : HoldsMarking l.listing.judged.chart.events l.e
      (flat_map (listed_at l.listing) (range_with_len 0 l.e)) l.marking;
}
