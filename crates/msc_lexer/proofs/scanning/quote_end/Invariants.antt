use Rattle.std.proofs.Common.{◌-◌, ◌≤◌, take, length}
use Rattle.msc_lexer.specs.Scanning.{IsDoubled}
use Rattle.msc_lexer.proofs.scanning.quote_end.Given as goal

abbrev pub invariant-loop-at : goal.invariant-loop-at
invariant-loop-at l = (l.at ≤ length l.body) × IsDoubled (take l.at l.body)

abbrev pub decreases-loop-at : goal.decreases-loop-at
decreases-loop-at l = length l.body - l.at
