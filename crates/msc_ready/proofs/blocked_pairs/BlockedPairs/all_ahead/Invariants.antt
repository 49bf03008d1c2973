use Rattle.std.proofs.Common.{◌≡◌, length}
use Rattle.msc_ready.specs.Views.{AreAhead}
use Rattle.msc_ready.proofs.blocked_pairs.BlockedPairs.all_ahead.Given as goal

abbrev pub invariant-loop-f : goal.invariant-loop-f
invariant-loop-f l = record {
  each : length l.all.items ≡ l.f;
  ahead : AreAhead l.self l.all.items l.f;
}
