use Rattle.std.proofs.Common.{◌≡◌, ◌++◌, ◌+◌, drop, map}
use Rattle.msc_mermaid.specs.Parts.{stretch}
use Rattle.msc_markdown.specs.Markdowns.{numbers_from}
use Rattle.msc_markdown.proofs.markdown.numbers_of.Given as goal

abbrev pub invariant-loop-i : goal.invariant-loop-i
invariant-loop-i l =
    l.numbers.items ++ numbers_from (l.i + 1) (drop l.i l.blocks) (map stretch l.parts) ≡ numbers_from 1 l.blocks (map stretch l.parts)
