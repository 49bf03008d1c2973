use Rattle.std.proofs.Common.{length, ◌-◌}
use Rattle.msc_lexer.proofs.Quotes.{IsHalvedTo}
use Rattle.msc_lexer.proofs.quoting.halved.Given as goal

abbrev pub invariant-loop-at : goal.invariant-loop-at
invariant-loop-at l = IsHalvedTo l.bytes l.at l.held.items

abbrev pub decreases-loop-at : goal.decreases-loop-at
decreases-loop-at l = length l.bytes - l.at
