use Rattle.std.proofs.Common.{◌≡◌}
use Rattle.msc_links.specs.Listed.{receivers_below}
use Rattle.msc_links.proofs.listing.links_below.Given as goal

-- the links to the receivers so far are listed
abbrev pub invariant-loop-r : goal.invariant-loop-r
invariant-loop-r l = l.listed.items ≡ receivers_below l.queues l.count l.r
