use Rattle.std.proofs.Common.{ℕ, ◌+◌, ◌<◌, ◌≤◌}
use Rattle.msc_race.specs.Views.{wiring_of}
use Rattle.msc_reason.specs.Links.{Reaches}
use Rattle.msc_reason.proofs.chaining.last_link.Given as goal

-- none of the events that were looked at, the last of the line, reaches y
abbrev pub invariant-loop-k : goal.invariant-loop-k
invariant-loop-k l = (z : ℕ) → l.end ≤ z + l.k → z < l.end → Reaches (wiring_of l.enforced) l.y z → ⊥
