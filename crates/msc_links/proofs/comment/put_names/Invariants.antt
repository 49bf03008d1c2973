use Rattle.std.proofs.Common.{◌≡◌, ◌++◌, map, take}
use Rattle.msc_links.proofs.comment.put_names.Given as goal

-- the names so far are there
abbrev pub invariant-loop-name : goal.invariant-loop-name
invariant-loop-name l =
    map (λ name. name.now) l.serves.items ≡ map (λ name. name.now) l.initial.serves.items ++ map (λ name. name.now) (take l.name-index l.names)
