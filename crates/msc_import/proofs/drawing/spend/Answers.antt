use Rattle.std.proofs.Common.{length, ap, arith}
use Rattle.std.proofs.lemmas.List.Folds.{length-flat_map-take}
use Rattle.msc_parser.specs.Drafts.{statements_in}
use Rattle.msc_import.proofs.drawing.spend.Goals as goal

pub returns-then-count-left-clause-none : goal.returns-then-count-left-clause-none
returns-then-count-left-clause-none c =
    let l = c.loop-item in
    let low = length-flat_map-take statements_in c.args.items.now l.item-index c.item-item.result c.loop-item-test.true in
    let same = c.events_in-count.ensures in let here = ap (λ i. length (statements_in i)) c.item-item.is in
    omega (arith, low, same, here, l.invariant, c.if-count-left.true)
