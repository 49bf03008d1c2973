-- The lines of nodes.
use Rattle.std.proofs.Common.{◌≡◌, List, ◌++◌}
use Rattle.std.proofs.lemmas.Grind.{flat_map-append}
use Rattle.msc_tree.specs.Trees.{Node, line_text, lines_text}

-- the lines of nodes behind others
pub lines_append : (xs ys : List Node) → lines_text (xs ++ ys) ≡ lines_text xs ++ lines_text ys
lines_append xs ys = flat_map-append line_text xs ys
