use Rattle.std.proofs.Common.{◌≡◌, ◌++◌, take}
use Rattle.std.specs.List.{flat_map}
use Rattle.msc_diagram.specs.Stale.{stale_by}
use Rattle.msc_diagram.proofs.stale.print_each.Given as goal

-- the marks so far are on the page
abbrev pub invariant-loop-mark : goal.invariant-loop-mark
invariant-loop-mark l =
    l.page.bytes.items ≡ l.fn.page.bytes.items ++ flat_map (stale_by l.format l.marks.used) (take l.mark-index l.stale)
