use Rattle.std.proofs.Common.{◌≡◌, map, take}
use Rattle.msc_links.proofs.said.instance_names.Given as goal

-- the names so far are there
abbrev pub invariant-loop-i : goal.invariant-loop-i
invariant-loop-i l = map (λ name. name.now) l.names.items ≡ take l.i l.chart.instances
