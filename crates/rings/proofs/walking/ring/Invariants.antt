use Rattle.std.proofs.Common.{◌≡◌, ◌<◌, length}
use Rattle.bit_rows.specs.Tables.{cell}
use Rattle.rings.specs.Searching.{IsAway}
use Rattle.rings.specs.Walking.{IsWalk}
use Rattle.rings.proofs.walking.ring.Given as goal

abbrev pub invariant-ring : goal.invariant-ring
invariant-ring l = record {
  walk : IsWalk (cell l.n l.steps) l.n l.away.items l.start l.bound l.last l.ring.items;
  away : IsAway (cell l.n l.steps) l.n l.start l.away.items;
  inside : l.last < l.n;
  each : length l.away.items ≡ l.n;
}

abbrev pub decreases-ring : goal.decreases-ring
decreases-ring l = l.bound
