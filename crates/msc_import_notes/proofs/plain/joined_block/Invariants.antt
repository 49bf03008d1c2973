use Rattle.std.proofs.Common.{◌≡◌, map, take}
use Rattle.std.specs.List.{join_with_byte}
use Rattle.msc_import_notes.specs.Plain.{own_lines}
use Rattle.msc_mermaid.specs.Parts.{stretch}
use Rattle.msc_import_notes.proofs.plain.joined_block.Given as goal

abbrev pub invariant-loop-i : goal.invariant-loop-i
invariant-loop-i l =
    l.plain.items ≡ join_with_byte 10 (own_lines 1 (map stretch l.parts) (map (λ x. x.now) (take l.i l.lines)))
