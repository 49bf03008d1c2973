use Rattle.std.proofs.Common.{◌+◌, ◌++◌, false, drop, get_or, sym, ap, ◌∙◌}
use Rattle.msc_scenarios.specs.Choosing.{by_rounds, chosen}
use Rattle.msc_scenarios.proofs.ChoiceLemmas.{rounds_more, rounds_end}
use Rattle.msc_scenarios.proofs.choosing.by_rounds.Goals as goal

pub loop-count-preserved : goal.loop-count-preserved
loop-count-preserved c =
    let l = c.loop-count in let rs = c.args.rounds.now in let body = c.args.body.now in
    let found = c.as_slice.ensures.value ∙ c.in_ok-found.ensures in
    let put = c.in_ok-put_chosen.ensures ∙ ap (λ x. l.paths.items ++ chosen (get_or rs l.count-index 0) false x) found in
    ap (λ x. x ++ by_rounds body (drop (l.count-index + 1) rs)) put
    ∙ sym (rounds_more body rs l.count-index l.paths.items 0 c.loop-count-test.true)
    ∙ l.invariant

pub returns : goal.returns
returns c =
    let l = c.loop-count in
    sym (rounds_end c.args.body.now c.args.rounds.now l.count-index l.paths.items c.loop-count-test.false) ∙ l.invariant
