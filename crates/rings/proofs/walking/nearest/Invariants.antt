use Rattle.bit_rows.specs.Tables.{cell}
use Rattle.rings.specs.Walking.{IsNearestBelow}
use Rattle.rings.proofs.walking.nearest.Given as goal

abbrev pub invariant-loop-y : goal.invariant-loop-y
invariant-loop-y l = IsNearestBelow (cell l.n l.steps) l.away l.x l.bound l.y l.found l.least
