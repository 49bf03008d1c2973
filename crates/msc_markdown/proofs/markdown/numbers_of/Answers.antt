use Rattle.std.proofs.Common.{◌+◌, map, sym, ◌∙◌}
use Rattle.msc_mermaid.specs.Parts.{stretch}
use Rattle.msc_markdown.proofs.PassLemmas.{numbers_on, numbers_pass, numbers_end}
use Rattle.msc_markdown.proofs.markdown.numbers_of.Goals as goal
use Rattle.msc_markdown.proofs.markdown.numbers_of.Goals.{then-is_sequence+in_ok-push, else-is_sequence}

pub loop-i-preserved : goal.loop-i-preserved
loop-i-preserved c =
    let l = c.loop-i in let blocks = c.args.blocks.now in let parts = map stretch c.args.parts.now in
    elim c.if-is_sequence.branch [
      | then-is_sequence+in_ok-push w ↦ rw w.numbers-is (rw w.in_ok-push.ensures.items (numbers_on blocks l.i (l.i + 1) parts _ c.loop-i-test.true l.numbers.items (map stretch c.own_parts-own.result.now) c.blocks_behind.result.now c.is_sequence.result c.own_parts-own.ensures c.blocks_behind.ensures c.is_sequence.ensures w.if-is_sequence.true ∙ l.invariant))
      | else-is_sequence w ↦ rw w.numbers-is (numbers_pass blocks l.i (l.i + 1) parts _ c.loop-i-test.true l.numbers.items (map stretch c.own_parts-own.result.now) c.blocks_behind.result.now c.is_sequence.result c.own_parts-own.ensures c.blocks_behind.ensures c.is_sequence.ensures w.if-is_sequence.false ∙ l.invariant)
    ]

pub returns : goal.returns
returns c =
    let l = c.loop-i in
    sym (numbers_end c.args.blocks.now l.i (l.i + 1) (map stretch c.args.parts.now) l.numbers.items c.loop-i-test.false) ∙ l.invariant
