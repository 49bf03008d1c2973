use Rattle.std.proofs.Common.{length, ap, refl, ◌∙◌, arith}
use Rattle.msc_draw.specs.Numbering.{later_bar}
use Rattle.msc_draw.proofs.NumberLemmas.{replaced_long, replaced_more}
use Rattle.msc_draw.proofs.numbering.number_all.Goals as goal

pub index_mut-requires : goal.index_mut-requires
index_mut-requires c =
    let f = later_bar c.args.first in
    let long = ap length c.loop-i.invariant ∙ replaced_long f c.args.bars.now.items c.loop-i.i in
    omega (arith, long, c.loop-i-test.true, c.len-i-end.ensures)

pub loop-i-preserved : goal.loop-i-preserved
loop-i-preserved c =
    let f = later_bar c.args.first in
    replaced_more f c.args.bars.now.items c.loop-i.bars.items _ c.loop-i.i _
    c.index_mut.result.now _ (omega (arith, c.loop-i-test.true, c.len-i-end.ensures))
    (omega arith) c.loop-i.invariant
    (c.in_ok-number_on.ensures ∙ ap f c.index_mut.ensures.value) refl
