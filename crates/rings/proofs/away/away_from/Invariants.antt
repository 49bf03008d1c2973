use Rattle.bit_rows.specs.Tables.{cell}
use Rattle.rings.specs.Searching.{IsSearch}
use Rattle.rings.proofs.away.away_from.Given as goal

abbrev pub invariant-loop-at : goal.invariant-loop-at
invariant-loop-at l = IsSearch (cell l.n l.steps) l.n l.start l.at l.away.items l.queue.items
