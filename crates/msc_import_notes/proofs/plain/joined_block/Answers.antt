use Rattle.std.proofs.Common.{arith, ◌≡◌, ◌+◌, map, take, get_or, length, ◌∙◌}
use Rattle.std.proofs.lemmas.Grind.{common_steps}
use Rattle.msc_mermaid.specs.Parts.{stretch}
use Rattle.msc_import_notes.specs.Plain.{own_lines}
use Rattle.msc_import_notes.proofs.LineLemmas.{block_next}
use Rattle.msc_import_notes.proofs.plain.joined_block.Goals as goal

pub loop-i-init : goal.loop-i-init
unfolding own_lines
loop-i-init c = c.new-plain.ensures.items

pub loop-i-preserved : goal.loop-i-preserved
loop-i-preserved c =
    let i = c.loop-i.i in let lines = c.args.lines.now in
    let parts = map stretch c.args.parts.now in
    grind (arith, common_steps, block_next (λ x. x.now) parts lines i, c.loop-i.invariant, c.in_ok-put_end.ensures, c.in_ok-put_line.ensures, c.part_on.ensures)
