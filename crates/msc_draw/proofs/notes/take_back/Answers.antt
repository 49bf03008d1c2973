use Rattle.std.proofs.Common.{length, inl, inr, arith}
use Rattle.std.proofs.lemmas.Bool.{cases_lt}
use Rattle.msc_draw.proofs.NoteLemmas.{all_blank}
use Rattle.msc_draw.proofs.notes.take_back.Goals as goal

pub returns : goal.returns
returns c =
    let i = c.loop-x.invariant in
    all_blank c.loop-x.table.items (length c.args.table.now.items) i.long
    (λ y. elim (cases_lt y c.loop-x.x) [
      | inl before ↦ i.below y before
      | inr behind ↦ i.above y (omega (arith, behind, c.loop-x-test.false))
    ])
