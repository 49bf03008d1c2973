use Rattle.msc_follow.specs.Tables.{HasJoined}
use Rattle.msc_follow.proofs.closing.join_rows.Given as goal

abbrev pub invariant-loop-i : goal.invariant-loop-i
invariant-loop-i l = HasJoined l.n l.initial.words l.words l.k l.i
