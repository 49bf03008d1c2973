use Rattle.std.proofs.Common.{◌≡◌, length}
use Rattle.msc_ready.specs.Views.{AreLeastFirsts}
use Rattle.msc_ready.proofs.blocked_pairs.least_firsts.Given as goal

abbrev pub invariant-loop-h : goal.invariant-loop-h
invariant-loop-h l = record {
  each : length l.firsts.items ≡ l.h;
  least : AreLeastFirsts l.ready l.firsts.items l.h;
}
