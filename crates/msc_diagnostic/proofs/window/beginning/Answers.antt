use Rattle.std.proofs.Common.{◌≡◌, ◌+◌, ap, arith, drop, ◌∙◌}
use Rattle.msc_diagnostic.specs.Windows.{beginning}
use Rattle.msc_diagnostic.proofs.WindowLemmas.{end_begins, none_begins, one_begins}
use Rattle.msc_diagnostic.proofs.window.beginning.Goals as goal

pub returns-then-left-eq0-clause-value : goal.returns-then-left-eq0-clause-value
returns-then-left-eq0-clause-value c =
    let l = c.loop-i in let cs = c.args.characters.now in
    let none : beginning l.left (drop l.i cs) ≡ 0 = ap (λ n. beginning n (drop l.i cs)) c.if-left-eq0.true ∙ none_begins (drop l.i cs) in
    omega (arith, l.invariant, none)

pub loop-i-preserved : goal.loop-i-preserved
loop-i-preserved c =
    let l = c.loop-i in
    let next = one_begins l.left c.args.characters.now l.i c.index-characters-i.result c.width.result c.loop-i-test.true c.index-characters-i.is c.width.ensures.value c.if-left-eq0.false in
    let left = ap (λ n. beginning n (drop (l.i + 1) c.args.characters.now)) c.saturating_sub-left.ensures in
    omega (arith, l.invariant, next, left)

pub returns-clause-value : goal.returns-clause-value
returns-clause-value c =
    let l = c.loop-i in
    omega (arith, l.invariant, end_begins l.left c.args.characters.now l.i (omega (arith, c.loop-i-test.false)))
