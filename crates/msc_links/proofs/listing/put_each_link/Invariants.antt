use Rattle.std.proofs.Common.{◌≡◌, ◌++◌}
use Rattle.msc_links.specs.Listed.{links_below}
use Rattle.msc_links.proofs.listing.put_each_link.Given as goal

-- the links from the instances so far have been added
abbrev pub invariant-loop-s : goal.invariant-loop-s
invariant-loop-s l = l.listed.items ≡ l.initial.listed.items ++ links_below l.queues l.r l.s
