use Rattle.std.proofs.Common.{◌≡◌, ◌+◌, ◌∷◌, ◌∙◌, ℕ, Some, [], ap, length, length-append, slice_get, sym}
use Rattle.std.proofs.lemmas.Option.{slice_get-get_or}
use Rattle.msc_scanning.proofs.Written.{one_block}
use Rattle.msc_scanning.specs.declared.files.Item.{Item}
use Rattle.msc_scanning.proofs.rounds.blocks_of.Goals as goal

pub loop-item-preserved : goal.loop-item-preserved
loop-item-preserved g c =
    let l = c.loop-item in let all = c.args.items.now in let item = c.item-item.result in let block = c.block_at-block.result in
    let here : slice_get all (length l.blocks.items) ≡ Some item =
    ap (λ (n : ℕ). slice_get all n) l.invariant.many ∙ (slice_get-get_or all l.item-index item c.loop-item-test.true ∙ ap (λ (it : Item). Some it) (sym c.item-item.is)) in
    rw c.in-Ok.ensures.put record {
      are = one_block c.args.plan c.args.input all l.blocks.items l.invariant.are item here block c.block_at-block.ensures;
      many = length-append l.blocks.items (block ∷ []) ∙ ap (λ (n : ℕ). n + 1) l.invariant.many;
    }
