use Rattle.std.proofs.Common.{◌≡◌, ◌++◌, map, take}
use Rattle.msc_svg.specs.Elements.{arrow_node}
use Rattle.msc_tree.specs.Trees.{lines_text}
use Rattle.msc_svg.proofs.element.put_arrows.Given as goal

abbrev pub invariant-loop-arrow : goal.invariant-loop-arrow
invariant-loop-arrow l =
    l.page.items ≡ l.initial.page.items ++ lines_text (map (arrow_node l.scene l.layout) (take l.arrow-index l.arrows))
