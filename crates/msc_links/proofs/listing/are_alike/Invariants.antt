use Rattle.std.proofs.Common.{◌≡◌}
use Rattle.msc_links.specs.Listed.{are_alike}
use Rattle.msc_links.proofs.listing.are_alike.Given as goal

abbrev pub invariant-loop-s : goal.invariant-loop-s
invariant-loop-s l = l.alike ≡ are_alike l.queues l.r l.s
