use Rattle.std.proofs.Common.{◌≡◌, length}
use Rattle.msc_race.specs.Races.{is_raced}
use Rattle.msc_race.specs.Walks.{HasReached}
use Rattle.msc_race.proofs.Listing.Pairs.{pairs_below}
use Rattle.msc_race.proofs.racing.races.Given as goal

abbrev pub invariant-loop-e : goal.invariant-loop-e
invariant-loop-e l = record {
  list : l.list.items ≡ pairs_below (is_raced l.chart.events l.order) (length l.chart.events) l.e;
  reached : HasReached l.chart.events l.e l.walk;
}
