use Rattle.std.proofs.Common.{◌≡◌, ◌++◌}
use Rattle.std.specs.List.{flat_map, range_with_len}
use Rattle.msc_svg.specs.Elements.{words_at}
use Rattle.msc_tree.specs.Trees.{lines_text}
use Rattle.msc_svg.proofs.element.put_words.Given as goal

abbrev pub invariant-loop-k : goal.invariant-loop-k
invariant-loop-k l =
    l.page.items
    ≡ l.initial.page.items ++ lines_text (flat_map (words_at l.x l.y l.at) (range_with_len 0 l.k))
