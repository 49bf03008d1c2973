use Rattle.std.proofs.Common.{◌≡◌, ◌++◌, take}
use Rattle.msc_svg.specs.Elements.{ends_at}
use Rattle.msc_tree.specs.Trees.{lines_text}
use Rattle.msc_svg.proofs.bar.put_ends.Given as goal

abbrev pub invariant-loop-e : goal.invariant-loop-e
invariant-loop-e l =
    l.page.items ≡ l.initial.page.items ++ lines_text (ends_at l.scene l.layout l.x (take l.e-index l.events))
