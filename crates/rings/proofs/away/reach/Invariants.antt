use Rattle.bit_rows.specs.Tables.{cell}
use Rattle.rings.specs.Searching.{IsReaching}
use Rattle.rings.proofs.away.reach.Given as goal

abbrev pub invariant-loop-x : goal.invariant-loop-x
invariant-loop-x l =
    IsReaching (cell l.n l.steps) l.n l.start l.at l.x l.y l.farther l.away l.queue.items
