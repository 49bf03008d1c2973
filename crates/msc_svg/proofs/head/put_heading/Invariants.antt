use Rattle.std.proofs.Common.{◌≡◌, ◌++◌, map}
use Rattle.std.specs.List.{range_with_len}
use Rattle.msc_svg.specs.Elements.{heading_node}
use Rattle.msc_tree.specs.Trees.{lines_text}
use Rattle.msc_svg.proofs.head.put_heading.Given as goal

abbrev pub invariant-loop-k : goal.invariant-loop-k
invariant-loop-k l =
    l.page.items ≡ l.initial.page.items ++ lines_text (map (heading_node l.heading) (range_with_len 0 l.k))
