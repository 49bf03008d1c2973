use Rattle.std.proofs.Common.{◌≡◌, ◌≤◌, length, take}
use Rattle.msc_diagram.specs.Counts.{without}
use Rattle.msc_diagram.proofs.reported.ReportedRaces.count_without.Given as goal

-- so many of those so far were not seen there
abbrev pub invariant-loop-places : goal.invariant-loop-places
invariant-loop-places l = record {
  few : l.count ≤ l.places-index;
  count : l.count ≡ length (without (take l.places-index l.places-items) l.other);
}
