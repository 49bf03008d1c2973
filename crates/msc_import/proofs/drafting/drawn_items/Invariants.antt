use Rattle.std.proofs.Common.{◌≡◌, ◌++◌, map, drop}
use Rattle.msc_import.specs.Drafting.{drawn_items}
use Rattle.msc_import.specs.Plans.{seen}
use Rattle.msc_import.proofs.drafting.drawn_items.Given as goal

abbrev pub invariant-loop-stop : goal.invariant-loop-stop
invariant-loop-stop l =
    l.items.items ++ drawn_items l.names (map seen l.events) l.start (drop l.stop-index l.ends) ≡ drawn_items l.names (map seen l.events) 0 l.ends
