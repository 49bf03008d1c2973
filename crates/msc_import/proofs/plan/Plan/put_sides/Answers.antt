use Rattle.std.proofs.Common.{◌+◌, drop, sym, ap, ◌∙◌}
use Rattle.msc_import.specs.Plans.{with_sides}
use Rattle.msc_import.proofs.PlanLemmas.{sides_more, sides_end}
use Rattle.msc_import.proofs.plan.Plan.put_sides.Goals as goal

pub loop-side-preserved : goal.loop-side-preserved
loop-side-preserved c =
    let l = c.loop-side in let m = c.args.message.now in let ss = c.args.sides.now in
    ap (with_sides m (drop (l.side-index + 1) ss)) c.in_ok-put.ensures ∙ sym (sides_more m ss l.side-index l.self _ c.loop-side-test.true) ∙ l.invariant

pub returns : goal.returns
returns c =
    let l = c.loop-side in
    sym (sides_end c.args.message.now c.args.sides.now l.side-index l.self c.loop-side-test.false) ∙ l.invariant
