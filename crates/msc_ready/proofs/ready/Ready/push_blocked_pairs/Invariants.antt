use Rattle.std.proofs.Common.{◌≡◌, ◌++◌}
use Rattle.msc_chart.specs.Lists.{pairs_to}
use Rattle.msc_ready.proofs.Listing.{test}
use Rattle.msc_ready.proofs.ready.Ready.push_blocked_pairs.Given as goal

abbrev pub invariant-loop-f : goal.invariant-loop-f
invariant-loop-f l = l.list.items ≡ l.initial.list.items ++ pairs_to (test l.self) l.e l.f
