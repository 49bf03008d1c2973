use Rattle.std.proofs.Common.{◌≡◌, ◌++◌, take}
use Rattle.std.specs.List.{flat_map}
use Rattle.msc_tree.specs.Trees.{escaped_byte}
use Rattle.msc_tree.proofs.tree.put_escaped.Given as goal

abbrev pub invariant-loop-byte : goal.invariant-loop-byte
invariant-loop-byte l =
    l.page.items ≡ l.initial.page.items ++ flat_map escaped_byte (take l.byte-index l.text)
