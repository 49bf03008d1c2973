use Rattle.std.proofs.Common.{◌≡◌, ℕ, ◌<◌, ◌≤◌, get_or}
use Rattle.msc_draw.proofs.numbering.end_of.Given as goal

-- the races so far are of the event
abbrev pub invariant-loop-k : goal.invariant-loop-k
invariant-loop-k l = (j : ℕ) → l.start ≤ j → j < l.k → (get_or l.races j (0, 0)).0 ≡ l.e
