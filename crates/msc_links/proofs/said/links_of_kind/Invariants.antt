use Rattle.std.proofs.Common.{◌≡◌, take}
use Rattle.msc_links.specs.Said.{links_of_kind}
use Rattle.msc_links.proofs.said.links_of_kind.Given as goal

-- the links so far that are of the kind are there
abbrev pub invariant-loop-each : goal.invariant-loop-each
invariant-loop-each l = l.links.items ≡ links_of_kind l.kind (take l.each-index l.listed)
