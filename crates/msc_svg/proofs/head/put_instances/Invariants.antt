use Rattle.std.proofs.Common.{◌≡◌, ◌++◌}
use Rattle.std.specs.List.{flat_map, range_with_len}
use Rattle.msc_svg.specs.Elements.{instance_nodes}
use Rattle.msc_tree.specs.Trees.{lines_text}
use Rattle.msc_svg.proofs.head.put_instances.Given as goal

abbrev pub invariant-loop-i : goal.invariant-loop-i
invariant-loop-i l =
    l.page.items
    ≡ l.initial.page.items
    ++ lines_text (flat_map (instance_nodes l.scene l.layout) (range_with_len 0 l.i))
