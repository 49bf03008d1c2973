use Rattle.std.proofs.Common.{◌≡◌, ◌++◌, map, take}
use Rattle.msc_links.specs.Said.{more_links}
use Rattle.msc_links.proofs.said.print_more_links.Given as goal

-- the links so far have been printed
abbrev pub invariant-loop-link : goal.invariant-loop-link
invariant-loop-link l =
    l.text.items ≡ l.initial.text.items ++ more_links (map (λ name. name.now) l.names) (take l.link-index l.links)
