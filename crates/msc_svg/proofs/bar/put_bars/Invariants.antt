use Rattle.std.proofs.Common.{◌≡◌, ◌++◌, take}
use Rattle.std.specs.List.{flat_map}
use Rattle.msc_svg.specs.Elements.{bar_nodes}
use Rattle.msc_tree.specs.Trees.{lines_text}
use Rattle.msc_svg.proofs.bar.put_bars.Given as goal

abbrev pub invariant-loop-bar : goal.invariant-loop-bar
invariant-loop-bar l =
    l.page.items ≡ l.initial.page.items ++ lines_text (flat_map (bar_nodes l.scene l.layout) (take l.bar-index l.bars))
