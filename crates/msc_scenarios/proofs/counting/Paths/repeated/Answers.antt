use Rattle.std.proofs.Common.{◌≡◌, ◌-◌, ◌+◌, suc, refl, sym, ap, ◌∙◌, arith}
use Rattle.msc_scenarios.specs.Counting.{behind, repeated}
use Rattle.msc_scenarios.proofs.CountLemmas.{repeated_more, repeated_none, repeated_still}
use Rattle.msc_scenarios.proofs.counting.Paths.repeated.Goals as goal

pub loop-preserved : goal.loop-preserved
loop-preserved c =
    let l = c.loop in
    let left : c.args.count - l.counter ≡ suc (c.args.count - (l.counter + 1)) = omega (arith, c.loop-test.true) in
    ap (repeated c.args.self (c.args.count - (l.counter + 1))) c.behind-next.ensures
    ∙ sym (repeated_more c.args.self (c.args.count - l.counter) (c.args.count - (l.counter + 1)) l.paths left)
    ∙ l.invariant

pub returns-then-are_as_many : goal.returns-then-are_as_many
returns-then-are_as_many c =
    let l = c.loop in
    let still : behind l.paths c.args.self ≡ l.paths = sym c.behind-next.ensures ∙ c.if-are_as_many.ensures refl in
    sym (repeated_still c.args.self (c.args.count - l.counter) l.paths still) ∙ l.invariant

pub returns : goal.returns
returns c =
    let l = c.loop in
    let none : c.args.count - l.counter ≡ 0 = omega (arith, c.loop-test.false) in
    sym (repeated_none c.args.self (c.args.count - l.counter) l.paths none) ∙ l.invariant
