use Rattle.std.proofs.Common.{◌≡◌, ◌-◌, ◌+◌, suc, sym, ap, ◌∙◌, arith}
use Rattle.msc_scenarios.specs.Choosing.{repeated}
use Rattle.msc_scenarios.proofs.ChoiceLemmas.{repeated_more, repeated_none}
use Rattle.msc_scenarios.proofs.choosing.repeated.Goals as goal

pub loop-preserved : goal.loop-preserved
loop-preserved c =
    let l = c.loop in let body = c.args.body.now in
    let left : c.args.count - l.counter ≡ suc (c.args.count - (l.counter + 1)) = omega (arith, c.loop-test.true) in
    ap (repeated body (c.args.count - (l.counter + 1))) c.in_ok-paths-2.ensures
    ∙ sym (repeated_more body (c.args.count - l.counter) (c.args.count - (l.counter + 1)) l.paths.items left)
    ∙ l.invariant

pub returns : goal.returns
returns c =
    let l = c.loop in
    let none : c.args.count - l.counter ≡ 0 = omega (arith, c.loop-test.false) in
    sym (repeated_none c.args.body.now (c.args.count - l.counter) l.paths.items none) ∙ l.invariant
