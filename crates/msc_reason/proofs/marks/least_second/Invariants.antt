use Rattle.std.proofs.Common.{◌≡◌, ◌≤◌, ◌⊎◌, ℕ, take}
use Rattle.std.specs.List.{All}
use Rattle.msc_chart.specs.Lists.{Occurs}
use Rattle.msc_reason.proofs.marks.least_second.Given as goal

-- the least of the races so far
abbrev pub invariant-loop-race : goal.invariant-loop-race
invariant-loop-race l = record {
  none_below : All (λ p. l.least ≤ p.1) (take l.race-index l.races);
  itself : (l.least ≡ l.none) ⊎ ((x : ℕ) × Occurs l.races (x, l.least));
}
