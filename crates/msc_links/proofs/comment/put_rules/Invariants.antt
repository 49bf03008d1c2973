use Rattle.std.proofs.Common.{◌≡◌, ◌++◌, map, take}
use Rattle.msc_links.specs.Comments.{plain_rules}
use Rattle.msc_links.proofs.comment.put_rules.Given as goal

-- the links so far have their rules
abbrev pub invariant-loop-link : goal.invariant-loop-link
invariant-loop-link l =
    plain_rules l.rules.items ≡ plain_rules l.initial.rules.items ++ map (λ link. record { kind = l.kind; link = link.now }) (take l.link-index l.links)
