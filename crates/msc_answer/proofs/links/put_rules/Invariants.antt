use Rattle.std.proofs.Common.{◌≡◌, ◌++◌, map, take}
use Rattle.msc_answer.specs.Linked.{ruled_by, seen_rules}
use Rattle.msc_answer.proofs.links.put_rules.Given as goal

-- a rule for each of the links so far
abbrev pub invariant-loop-link : goal.invariant-loop-link
invariant-loop-link l =
    seen_rules l.rules.items ≡ seen_rules l.fn.rules.items ++ ruled_by l.kind (map (λ link. link.now) (take l.link-index l.links))
