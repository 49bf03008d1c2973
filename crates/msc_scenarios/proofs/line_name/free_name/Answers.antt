use Rattle.std.proofs.Common.{◌≡◌, ◌+◌, ◌-◌, suc, length, sym, ap, ◌∙◌, arith}
use Rattle.msc_scenarios.specs.Naming.{is_taken}
use Rattle.msc_scenarios.proofs.NamingLemmas.{free_here, free_on, free_none}
use Rattle.msc_scenarios.proofs.line_name.free_name.Goals as goal

pub returns-then-not-is_taken : goal.returns-then-not-is_taken
returns-then-not-is_taken c =
    let names = c.args.names.now in let name = c.args.name.now in let i = c.loop-i.i in
    let left : (length names + 1) - i ≡ suc ((length names + 1) - (i + 1)) = omega (arith, c.loop-i-test.true) in
    let same = c.is_taken.ensures ∙ ap (is_taken names) (c.as_slice.ensures.value ∙ c.in_ok-free.ensures) in
    c.in_ok-free.ensures ∙ sym (free_here names name (i + 1) ((length names + 1) - i) ((length names + 1) - (i + 1)) left (sym same ∙ c.if-not-is_taken.true)) ∙ c.loop-i.invariant

pub loop-i-preserved : goal.loop-i-preserved
loop-i-preserved c =
    let names = c.args.names.now in let name = c.args.name.now in let i = c.loop-i.i in
    let left : (length names + 1) - i ≡ suc ((length names + 1) - (i + 1)) = omega (arith, c.loop-i-test.true) in
    let same = c.is_taken.ensures ∙ ap (is_taken names) (c.as_slice.ensures.value ∙ c.in_ok-free.ensures) in
    sym (free_on names name (i + 1) ((length names + 1) - i) ((length names + 1) - (i + 1)) left (sym same ∙ c.if-not-is_taken.false)) ∙ c.loop-i.invariant

pub returns : goal.returns
returns c =
    let names = c.args.names.now in let name = c.args.name.now in let i = c.loop-i.i in
    let none : (length names + 1) - i ≡ 0 = omega (arith, c.loop-i-test.false) in
    let same = sym (free_none names name (i + 1) ((length names + 1) - i) none) ∙ c.loop-i.invariant in
    rw (← same) c.from_slice.ensures.items
