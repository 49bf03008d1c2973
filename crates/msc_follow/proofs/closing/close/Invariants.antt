use Rattle.msc_follow.specs.Tables.{IsClosed}
use Rattle.msc_follow.proofs.closing.close.Given as goal

abbrev pub invariant-loop-k : goal.invariant-loop-k
invariant-loop-k l = IsClosed l.n l.initial.words l.words l.k
