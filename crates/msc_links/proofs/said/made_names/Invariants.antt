use Rattle.std.proofs.Common.{◌≡◌, map, take}
use Rattle.msc_links.specs.Said.{made_names}
use Rattle.msc_links.proofs.said.made_names.Given as goal

-- the made names of the lines so far are there
abbrev pub invariant-loop-line : goal.invariant-loop-line
invariant-loop-line l = map (λ name. name.now) l.made.items ≡ made_names (take l.line-index l.names)
