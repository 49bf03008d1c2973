use Rattle.std.proofs.Common.{◌≡◌, get_or, ap, sym, ◌∙◌, below_more, arith}
use Rattle.std.proofs.lemmas.List.{get_or_read}
use Rattle.msc_fifo.specs.Ends.{unended_in}
use Rattle.msc_execution.specs.Roles.{NumberedInlet}
use Rattle.msc_instance.proofs.running.all_ended.Goals as goal

pub loop-inlet-preserved : goal.loop-inlet-preserved
loop-inlet-preserved c k n =
    let inlets = c.args.inlets.now in
    let none : c.unended.result ≡ 0 = omega arith in
    let here = get_or_read inlets c.loop-inlet.inlet-index c.inlet-item.result c.loop-inlet-test.true
    c.inlet-item.is n in
    below_more (λ j. unended_in (get_or inlets j n).1 ≡ 0) c.loop-inlet.inlet-index
    (λ j lt. c.loop-inlet.invariant j n lt)
    (sym (ap (λ (i : NumberedInlet). unended_in i.1) here) ∙ sym c.unended.ensures.count ∙ none) k
