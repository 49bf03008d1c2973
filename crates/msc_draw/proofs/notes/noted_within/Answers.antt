use Rattle.std.proofs.Common.{false, get_or, sym, ◌∙◌, arith}
use Rattle.msc_picture.proofs.Ranges.{filter_next}
use Rattle.msc_draw.proofs.NoteLemmas.{none_below, same_above}
use Rattle.msc_draw.proofs.notes.noted_within.Goals as goal

pub loop-x-init : goal.loop-x-init
loop-x-init c =
    c.new-events.ensures.items ∙ sym (none_below c.args.table.now c.args.low c.args.high c.requires)

pub loop-x-preserved : goal.loop-x-preserved
loop-x-preserved c =
    let x = c.loop-x.x in
    filter_next (λ y. get_or c.args.table.now y false) x _ _ c.loop-x.invariant c.in_ok-print_if.ensures

pub returns : goal.returns
returns c =
    c.from_vec.ensures ∙ c.loop-x.invariant
    ∙ same_above c.args.table.now c.args.low c.args.high c.loop-x.x c.requires (omega (arith, c.loop-x-test.false))
