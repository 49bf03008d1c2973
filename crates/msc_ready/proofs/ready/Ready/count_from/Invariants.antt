use Rattle.std.proofs.Common.{◌≡◌, length}
use Rattle.msc_chart.specs.Lists.{pairs_to}
use Rattle.msc_ready.proofs.Listing.{test}
use Rattle.msc_ready.proofs.ready.Ready.count_from.Given as goal

abbrev pub invariant-loop-f : goal.invariant-loop-f
invariant-loop-f l = l.count ≡ length (pairs_to (test l.self) l.e l.f)
