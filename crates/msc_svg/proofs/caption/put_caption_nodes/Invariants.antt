use Rattle.std.proofs.Common.{◌≡◌, ◌++◌, map, take}
use Rattle.msc_svg.specs.Captions.{caption_node}
use Rattle.msc_tree.specs.Trees.{lines_text}
use Rattle.msc_svg.proofs.caption.put_caption_nodes.Given as goal

abbrev pub invariant-loop-caption : goal.invariant-loop-caption
invariant-loop-caption l =
    l.page.items ≡ l.initial.page.items ++ lines_text (map caption_node (take l.caption-index l.captions))
