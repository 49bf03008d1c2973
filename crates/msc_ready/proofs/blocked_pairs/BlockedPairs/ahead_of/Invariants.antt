use Rattle.msc_ready.specs.Lesser.{IsLeastBelow}
use Rattle.msc_ready.proofs.blocked_pairs.BlockedPairs.ahead_of.Given as goal

abbrev pub invariant-loop-h : goal.invariant-loop-h
invariant-loop-h l = IsLeastBelow l.self l.f l.h l.least
