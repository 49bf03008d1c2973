use Rattle.std.proofs.Common.{◌-◌, ◌≤◌, length}
use Rattle.msc_parser.proofs.sectioning.statement_ends.Given as goal

abbrev pub invariant-loop-at : goal.invariant-loop-at
invariant-loop-at l = (l.ends ≤ l.at) × (l.at ≤ length l.tokens)

abbrev pub decreases-loop-at : goal.decreases-loop-at
decreases-loop-at l = length l.tokens - l.at
